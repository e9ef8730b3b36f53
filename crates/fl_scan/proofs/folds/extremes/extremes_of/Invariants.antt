use Rattle.std.proofs.Common.{◌≡◌, map, take}
use Rattle.std.specs.Prelude.{fold}
use Rattle.std.specs.Int.{int_max, int_min}
use Rattle.fl_scan.proofs.folds.extremes.extremes_of.Given as goal

-- the least and the greatest of the integers so far
abbrev pub invariant-loop-item : goal.invariant-loop-item
invariant-loop-item g l =
    (g.T.Number.value l.least ≡ fold int_min (g.T.Number.value l.initial.least) (take l.item-index (map g.T.Number.value l.items)))
    × (g.T.Number.value l.greatest ≡ fold int_max (g.T.Number.value l.initial.greatest) (take l.item-index (map g.T.Number.value l.items)))
