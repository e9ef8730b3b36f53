use Rattle.std.proofs.Common.{◌≡◌, ◌≤◌, map}
use Rattle.fl_scan.specs.Counts.{count_below, passed_in}
use Rattle.fl_scan.proofs.counting.count_each.Given as goal

-- those so far
abbrev pub invariant-loop-item : goal.invariant-loop-item
invariant-loop-item g l = (l.count ≡ count_below (passed_in (g.P.ItemTest.passing l.test) (map g.T.Number.value l.items)) l.item-index) × (l.count ≤ l.item-index)
