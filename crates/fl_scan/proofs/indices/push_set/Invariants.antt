use Rattle.std.proofs.Common.{◌≡◌, ℕ, ◌+◌, ◌<◌, ◌^◌, ◌++◌, true}
use Rattle.std.specs.List.{range_with_len}
use Rattle.fl_types.specs.Bits.{bit_of_word, kept, tabulate}
use Rattle.fl_scan.proofs.indices.push_set.Given as goal

-- the positions of the bits that are left are still to come
abbrev pub invariant-loop-rest : goal.invariant-loop-rest
invariant-loop-rest l = record {
  inside : (j : ℕ) → bit_of_word l.rest j ≡ true → l.start + j < 2 ^ 64;
  items : l.positions.items ++ kept (tabulate (bit_of_word l.rest) 64) (range_with_len l.start 64) ≡ l.initial.positions.items ++ kept (tabulate (bit_of_word l.word) 64) (range_with_len l.start 64);
}

abbrev pub decreases-loop-rest : goal.decreases-loop-rest
decreases-loop-rest l = l.rest
