use Rattle.std.proofs.Common.{◌≡◌, ◌*◌, length, map, min}
use Rattle.fl_types.specs.Bits.{tabulate}
use Rattle.fl_scan.specs.Counts.{both, marked_from, passed_in}
use Rattle.fl_scan.proofs.filtering.passing_items.Given as goal

-- the marks of the words so far
abbrev pub invariant-loop-k : goal.invariant-loop-k
invariant-loop-k g l = l.bits ≡ tabulate (both (marked_from l.marks 0) (passed_in (g.P.ItemTest.passing l.fn.test) (map g.T.Number.value l.items))) (min (64 * l.k) (length l.items))
