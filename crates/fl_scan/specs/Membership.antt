-- Whether items are one of a list.
use Rattle.std.specs.Prelude.{◌||◌, ℤ, Bool, List, not}
use Rattle.std.specs.List.{list_all, list_any}
use Rattle.std.specs.Ordering.{int_eq}
use Rattle.fl_types.specs.declared.scalar.PValue.{PValue}
use Rattle.fl_types.specs.Types.{has_ptype, is_integer}
use Rattle.fl_types.specs.Values.{ptype_of_value}
use Rattle.fl_column.specs.Columns.{Column}

-- the integer is one of these
abbrev pub is_one_of : List ℤ → ℤ → Bool
is_one_of list z = list_any (int_eq z) list

-- the constants are of the column's type, where the column is of integers
abbrev pub are_comparable : Column → List PValue → Bool
are_comparable c list = not (is_integer c.dtype) || list_all (λ value. has_ptype (ptype_of_value value) c.dtype) list
