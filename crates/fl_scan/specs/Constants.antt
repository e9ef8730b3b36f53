-- The constants that items are compared with.
use Rattle.std.specs.Prelude.{◌&&◌, ◌||◌, ℤ, pos, Bool, not, is_some, unwrap_or}
use Rattle.fl_types.specs.Types.{is_integer, same_type}
use Rattle.fl_types.specs.Values.{ScalarParts}
use Rattle.fl_column.specs.Columns.{Column}

-- the integer of a compared constant that is not null
abbrev pub integer_in : ScalarParts → ℤ
integer_in constant = unwrap_or constant.value (pos 0)

-- the constant is of the column's type and not null, where the column is of integers
abbrev pub is_comparable : Column → ScalarParts → Bool
is_comparable c constant = not (is_integer c.dtype) || (same_type c.dtype constant.dtype && is_some constant.value)
