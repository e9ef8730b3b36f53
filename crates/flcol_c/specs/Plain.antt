-- The plain arrays that arrays are encoded from.
use Rattle.std.specs.Prelude.{◌≡◌}
use Rattle.fl_types.specs.Types.{nullability_in}
use Rattle.fl_column.specs.Columns.{Column, PrimitiveParts, column_of_primitive, item_validity}

-- a plain array has the column, and the simplest validity that says which of its items are null
abbrev pub IsSimplestOf : Column → PrimitiveParts → Type 0
IsSimplestOf c plain = (column_of_primitive plain ≡ c) × (plain.validity ≡ item_validity (nullability_in c.dtype) c.items)
