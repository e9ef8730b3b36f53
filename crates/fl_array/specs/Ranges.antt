-- Items in the range of their type.
use Rattle.std.specs.Prelude.{Bool}
use Rattle.std.specs.List.{list_all}
use Rattle.fl_types.specs.Values.{fits_in}
use Rattle.fl_column.specs.Columns.{Column, option_all}

-- each item is one of the column's type
abbrev pub items_fit : Column → Bool
items_fit c = list_all (option_all (fits_in c.dtype)) c.items
