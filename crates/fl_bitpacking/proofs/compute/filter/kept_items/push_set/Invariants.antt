use Rattle.std.proofs.Common.{◌≡◌, ℕ, ◌<◌, ◌++◌, length, true, vec_capacity}
use Rattle.fl_types.specs.Bits.{bit_of_word, tabulate}
use Rattle.fl_column.specs.Operations.{kept}
use Rattle.fl_bitpacking.proofs.compute.filter.kept_items.push_set.Given as goal

-- the items of the bits that are left are still to come
abbrev pub invariant-loop-rest : goal.invariant-loop-rest
invariant-loop-rest g l = record {
  inside : (j : ℕ) → bit_of_word l.rest j ≡ true → j < length l.items;
  items : l.taken.items ++ kept (tabulate (bit_of_word l.rest) 64) l.items ≡ l.initial.taken.items ++ kept (tabulate (bit_of_word l.word) 64) l.items;
  capacity : vec_capacity l.taken ≡ vec_capacity l.initial.taken;
}

abbrev pub decreases-loop-rest : goal.decreases-loop-rest
decreases-loop-rest g l = l.rest
