use Rattle.std.proofs.Common.{◌≡◌, fold, map, take}
use Rattle.std.specs.Int.{int_max, int_min}
use Rattle.fl_file.proofs.summary.bounds_with.Given as goal

-- the least and the greatest so far
abbrev pub invariant-loop-item : goal.invariant-loop-item
invariant-loop-item g l = record {
  least : g.T.Number.value l.least ≡ fold int_min (g.T.Number.value l.fn.first) (take l.item-index (map g.T.Number.value l.items));
  greatest : g.T.Number.value l.greatest ≡ fold int_max (g.T.Number.value l.fn.first) (take l.item-index (map g.T.Number.value l.items));
}
