-- Items that indices name, as they are read.
use Rattle.std.specs.Prelude.{◌≡◌, ◌<◌, ◌≤◌, ℕ, ℤ, List, None, Option, Some, slice_index_or, unsigned_abs}
use Rattle.fl_column.specs.Columns.{Column}
use Rattle.fl_ops.specs.declared.by_blocks.take.Run.{Run}

-- each index of the run names an item of those that are read for it, or none
pub record IsRun (indices : List (Option ℤ)) (run : Run) : Type 0 where
  pub above : (k : ℕ) (z : ℤ) → run.from ≤ k → k < run.to → slice_index_or indices k None ≡ Some z → run.low ≤ unsigned_abs z
  pub below : (k : ℕ) (z : ℤ) → run.from ≤ k → k < run.to → slice_index_or indices k None ≡ Some z → unsigned_abs z < run.high

-- each of the first n indices that names an item below an end of a column has it: any integer where the index or the item is null
abbrev pub ArePicked : (ℕ → ℤ) → List (Option ℤ) → ℕ → ℕ → Column → Type 0
ArePicked integer indices n end c = (k : ℕ) (z y : ℤ) → k < n → slice_index_or indices k None ≡ Some z → unsigned_abs z < end → slice_index_or c.items (unsigned_abs z) None ≡ Some y → integer k ≡ y
