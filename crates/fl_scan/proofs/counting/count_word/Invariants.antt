use Rattle.std.proofs.Common.{◌≡◌, ◌≤◌, map}
use Rattle.fl_types.specs.Bits.{bit_of_word}
use Rattle.fl_scan.specs.Counts.{both, count_below, passed_in}
use Rattle.fl_scan.proofs.counting.count_word.Given as goal

-- those so far
abbrev pub invariant-loop-j : goal.invariant-loop-j
invariant-loop-j g l = (l.count ≡ count_below (both (bit_of_word l.word) (passed_in (g.P.ItemTest.passing l.test) (map g.T.Number.value l.items))) l.j) × (l.count ≤ l.j)
