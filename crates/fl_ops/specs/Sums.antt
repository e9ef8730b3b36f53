-- Items plus a reference that stay in the type's range.
use Rattle.std.specs.Prelude.{◌+ℤ◌, ℤ, Bool, List, Option}
use Rattle.std.specs.List.{list_all}
use Rattle.fl_types.specs.declared.dtype.PType.{PType}
use Rattle.fl_types.specs.Integers.{fits}
use Rattle.fl_column.specs.Columns.{option_all}

-- the sum of an integer and the reference does not pass the type's end
abbrev pub sum_fits : PType → ℤ → ℤ → Bool
sum_fits ptype reference z = fits ptype (z +ℤ reference)

-- no sum of an item and the reference does
abbrev pub sums_fit : PType → ℤ → List (Option ℤ) → Bool
sums_fit ptype reference items = list_all (option_all (sum_fits ptype reference)) items
