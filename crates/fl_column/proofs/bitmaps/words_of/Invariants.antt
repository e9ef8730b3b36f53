use Rattle.std.proofs.Common.{◌≡◌, ℕ, ◌*◌, ◌<◌, length}
use Rattle.fl_types.specs.Bits.{is_set}
use Rattle.fl_column.specs.Bitmaps.{bit_in}
use Rattle.fl_column.proofs.bitmaps.words_of.Given as goal

-- the words so far have their bits
abbrev pub invariant-loop-k : goal.invariant-loop-k
invariant-loop-k l = record {
  count : length l.words.items ≡ l.k;
  bits : (i : ℕ) → i < 64 * l.k → is_set l.words.items i ≡ bit_in l.bitmap i;
}
