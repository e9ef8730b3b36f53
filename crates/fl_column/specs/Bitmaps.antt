-- Bitmaps: bit i is in byte i / 8, the lowest bit first.
use Rattle.std.specs.Prelude.{◌+◌, ◌/◌, ◌%◌, ℕ, Bool, List, slice_index}
use Rattle.fl_types.specs.Bits.{bit_of_word, tabulate}

-- bit i
unfoldable pub bit_in : List ℕ → ℕ → Bool
bit_in bitmap i = bit_of_word (slice_index bitmap (i / 8)) (i % 8)

-- the first n bits
abbrev pub bits_in : List ℕ → ℕ → List Bool
bits_in bitmap n = tabulate (bit_in bitmap) n

-- how many bytes hold n bits
abbrev pub bitmap_len : ℕ → ℕ
bitmap_len n = (n + 7) / 8
