use Rattle.std.proofs.Common.{◌≡◌, ℕ, ◌+◌, ◌*◌, ◌<◌, false, get_or, length}
use Rattle.fastlanes.specs.Layout.{word_at}
use Rattle.fl_types.specs.Bits.{bit_of_word}
use Rattle.fl_column.specs.Bitmaps.{bit_in}
use Rattle.fl_column.proofs.bitmaps.write_bits.Given as goal

-- the words so far have their bits
abbrev pub invariant-loop-k : goal.invariant-loop-k
invariant-loop-k l = record {
  long : length l.bitmap ≡ length l.initial.bitmap;
  bytes : (i : ℕ) → get_or l.bitmap i 0 < 256;
  words : (k : ℕ) → k < l.k → (j : ℕ) → j < 64 → bit_of_word (word_at 64 l.bitmap k) j ≡ get_or l.bits (64 * k + j) false;
}

-- and the bytes of the last one
abbrev pub invariant-loop-at : goal.invariant-loop-at
invariant-loop-at l = record {
  long : length l.bitmap ≡ length l.initial.bitmap;
  bits : (i : ℕ) → i < 8 * l.at → bit_in l.bitmap i ≡ get_or l.bits i false;
}
