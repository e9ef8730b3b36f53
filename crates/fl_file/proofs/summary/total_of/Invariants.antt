use Rattle.std.proofs.Common.{◌≡◌, ◌*◌, ◌≤◌, map, take, unsigned_abs}
use Rattle.fl_file.specs.Statistics.{total}
use Rattle.fl_file.proofs.summary.total_of.Given as goal

-- the sum so far, and how large it can be
abbrev pub invariant-loop-item : goal.invariant-loop-item
invariant-loop-item g l = record {
  sum : l.sum ≡ total (take l.item-index (map g.T.Number.value l.items));
  bound : unsigned_abs l.sum ≤ l.item-index * 18446744073709551616;
}
