use Rattle.std.proofs.Common.{◌≡◌, ℕ, ◌+◌, ◌*◌, ◌<◌, length}
use Rattle.fl_types.specs.Bits.{is_set}
use Rattle.fl_types.proofs.bits.words_from.Given as goal

-- the words so far have their bits
abbrev pub invariant-loop-k : goal.invariant-loop-k
invariant-loop-k l = record {
  count : length l.moved.items ≡ l.k;
  bits : (i : ℕ) → i < 64 * l.k → i < l.len → is_set l.moved.items i ≡ is_set l.words (l.start + i);
}
