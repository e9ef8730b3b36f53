-- Digits that are read by words.
use Rattle.std.specs.Prelude.{◌≡◌, ◌<◌, ◌+◌, ◌*◌, ◌%◌, ℕ, List, ◌∷◌, length, take, drop, Some}
use Rattle.std.specs.Simd.Lanes.{fold_l}
use Rattle.flcol_engine.specs.Text.{lines_of, number_in_digits}

-- the number that decimal digits write, each in the lower half of a byte
abbrev pub number_in_halves : List ℕ → ℕ
number_in_halves bytes = fold_l (λ n b. n * 10 + b % 16) 0 bytes

-- a byte whose lower half is a decimal digit
pub record IsDigitByte (b : ℕ) : Type 0 where
  pub byte : b < 256
  pub digit : b % 16 < 10

-- the first line of a text is `count` digits, ended by a line feed, that write n
pub record BeginsWithNumber (text : List ℕ) (n count : ℕ) : Type 0 where
  pub within : count < length text
  pub number : number_in_digits (take count text) ≡ Some n
  pub line : lines_of text ≡ take count text ∷ lines_of (drop (count + 1) text)
