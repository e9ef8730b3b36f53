use Rattle.std.proofs.Common.{◌≡◌, ◌*◌, map, take}
use Rattle.std.specs.Int.{int_wrap, w128}
use Rattle.fl_scan.specs.Totals.{total}
use Rattle.fl_scan.proofs.folds.total.total_of.Given as goal

-- the sum of the blocks so far
abbrev pub invariant-loop-k : goal.invariant-loop-k
invariant-loop-k g l = int_wrap w128 l.total ≡ int_wrap w128 (total (take (1024 * l.k) (map g.T.Number.value l.items)))
