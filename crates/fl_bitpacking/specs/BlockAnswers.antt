-- Answers of tests for the items of a block, as bits.
use Rattle.std.specs.Prelude.{◌≡◌, ◌+◌, ◌/◌, ◌%◌, ◌<◌, ℕ, ℤ, Bool, List, None, Some, length, slice_index_or}
use Rattle.fastlanes.specs.Compared.{has_bit}
use Rattle.fl_column.specs.Columns.{Column}

-- bit q of these words is the answer of a test for the item at position q of block j, where it is one of the column and not null; item 0 is at an offset in block 0
abbrev pub AreBlockAnswers : (ℤ → Bool) → List ℕ → ℕ → ℕ → Column → Type 0
AreBlockAnswers test bits j offset c = (i : ℕ) (z : ℤ) → i < length c.items → (offset + i) / 1024 ≡ j → slice_index_or c.items i None ≡ Some z → has_bit bits ((offset + i) % 1024) ≡ test z
