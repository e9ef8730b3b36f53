-- Plain arrays of booleans, as bits and a bitmap.
use Rattle.std.specs.Prelude.{◌≡◌, ◌==◌, ◌*◌, ℕ, not, Option, Some, List, length, map, option_map, nat_lt, if◌then◌else◌}
use Rattle.fl_types.specs.Types.{is_integer}
use Rattle.fl_types.specs.Values.{bool_number}
use Rattle.fl_column.specs.Bitmaps.{bitmap_len, bits_in}
use Rattle.fl_column.specs.Columns.{BoolParts, Column}
use Rattle.fl_bitmaps.specs.Bitmaps.{items_in, validity_in}
use Rattle.flcol_c.specs.Bitmaps.{short_fault}
use Rattle.flcol_c.specs.Reading.{nulls_fault}
use Rattle.flcol_c.specs.declared.fault.Fault.{Fault}
use Rattle.flcol_c.specs.declared.fault.Fault.TheVariants.{WrongLength, WrongType}

-- the plain array of the first n bits, of which those are valid whose bits are set
abbrev pub booleans_in : List ℕ → ℕ → List ℕ → BoolParts
booleans_in bits n validity = record { bits = bits_in bits n; validity = validity_in validity n }

-- why there is none, if there is none
abbrev pub bits_fault : List ℕ → ℕ → List ℕ → Option Fault
bits_fault bits n validity = if nat_lt (8 * length bits) n then Some WrongLength else short_fault validity n

-- why a column is not read as booleans into so much room, if it is not: so many bytes of the bits, and so many of their bitmap
abbrev pub booleans_fault : ℕ → ℕ → Column → Option Fault
booleans_fault bits bytes c =
    if is_integer c.dtype then Some WrongType
    else if not (bits == bitmap_len (length c.items)) then Some WrongLength
    else nulls_fault bytes c

-- the bits are the booleans of a column
abbrev pub AreBooleans : Column → List ℕ → List ℕ → Type 0
AreBooleans c bits validity = c.items ≡ map (option_map bool_number) (items_in (bits_in bits (length c.items)) validity)
