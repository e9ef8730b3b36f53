-- Columns that have no nulls.
use Rattle.std.specs.Prelude.{◌≡◌, ◌<◌, ℕ, None, false, true, is_some, length, slice_index_or}
use Rattle.fl_types.specs.Types.{is_nullable}
use Rattle.fl_column.specs.Columns.{Column}

-- a column that may have no nulls has none
abbrev pub HasNoNulls : Column → Type 0
HasNoNulls c = is_nullable c.dtype ≡ false → (i : ℕ) → i < length c.items → is_some (slice_index_or c.items i None) ≡ true
