use Rattle.std.proofs.Common.{◌≡◌, ◌*◌, ◌≤◌, length, map, min}
use Rattle.fl_scan.specs.Counts.{both, count_below, marked_from, passed_in}
use Rattle.fl_scan.proofs.counting.count_items.Given as goal

-- those of the words so far
abbrev pub invariant-loop-k : goal.invariant-loop-k
invariant-loop-k g l = (l.total ≡ count_below (both (marked_from l.marks l.start) (passed_in (g.P.ItemTest.passing l.test) (map g.T.Number.value l.items))) (min (64 * l.k) (length l.items))) × (l.total ≤ 64 * l.k)
