-- What is read of arrays into memory of C.
use Rattle.std.specs.Prelude.{◌≡◌, ◌==◌, ℕ, ℤ, not, Option, Some, None, length, is_none, count_by, nat_lt, pos, if◌then◌else◌}
use Rattle.fl_types.specs.declared.dtype.PType.{PType}
use Rattle.fl_types.specs.declared.error.FastLanesError.TheVariants.{IndexOutOfBounds}
use Rattle.fl_types.specs.Types.{has_ptype}
use Rattle.fl_column.specs.Columns.{Column}
use Rattle.flcol_c.specs.Bitmaps.{room_fault}
use Rattle.flcol_c.specs.declared.fault.Fault.{Fault}
use Rattle.flcol_c.specs.declared.fault.Fault.TheVariants.{Refused, WrongLength, WrongType}

-- how many items of a column are null
abbrev pub nulls_in : Column → ℕ
nulls_in c = count_by is_none c.items

-- why a column is not read as so many values of a type, if it is not
abbrev pub read_fault : PType → ℕ → Column → Option Fault
read_fault ptype len c =
    if not (has_ptype ptype c.dtype) then Some WrongType
    else if len == length c.items then None
    else Some WrongLength

-- why so many bytes are no room for the bitmap of a column's valid items, if they are none
abbrev pub nulls_fault : ℕ → Column → Option Fault
nulls_fault bytes c = room_fault bytes (length c.items) (nulls_in c)

-- why an item of a column is not read as a value of a type, if it is not
abbrev pub get_fault : PType → ℕ → Column → Option Fault
get_fault ptype i c =
    if not (has_ptype ptype c.dtype) then Some WrongType
    else if nat_lt i (length c.items) then None
    else Some (Refused IndexOutOfBounds)

-- a value and a 0 are the item, or a 0 and a 1 stand for a null
abbrev pub IsItem : Option ℤ → ℤ → ℕ → Type 0
IsItem None value null = (value ≡ pos 0) × (null ≡ 1)
IsItem (Some z) value null = (value ≡ z) × (null ≡ 0)
