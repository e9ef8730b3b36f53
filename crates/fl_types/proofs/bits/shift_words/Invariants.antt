use Rattle.std.proofs.Common.{◌≡◌, ℕ, ◌+◌, ◌*◌, ◌<◌, ◌≤◌, length}
use Rattle.fl_types.specs.Bits.{is_set}
use Rattle.fl_types.proofs.bits.shift_words.Given as goal

-- the words so far have their bits, and those behind are as they were
abbrev pub invariant-loop-k : goal.invariant-loop-k
invariant-loop-k l = record {
  whole : length l.words.items ≡ length l.initial.words.items;
  moved : (i : ℕ) → i < 64 * l.k → i < l.len → is_set l.words.items i ≡ is_set l.initial.words.items (l.start + i);
  kept : (i : ℕ) → 64 * l.k ≤ i → is_set l.words.items i ≡ is_set l.initial.words.items i;
}
