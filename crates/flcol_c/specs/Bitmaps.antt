-- Bitmaps of valid items that C hands in, and room for those that are written.
use Rattle.std.specs.Prelude.{◌==◌, ◌*◌, ◌-◌, ℕ, Bool, false, not, Option, Some, None, List, [], ◌∷◌, length, nat_lt, if◌then◌else◌}
use Rattle.fl_types.specs.Bits.{true_count}
use Rattle.fl_types.specs.declared.validity.Validity.{Validity}
use Rattle.fl_types.specs.declared.validity.Validity.TheVariants as valid
use Rattle.fl_types.specs.declared.error.FastLanesError.TheVariants.{ValidityLength}
use Rattle.fl_column.specs.Bitmaps.{bitmap_len}
use Rattle.flcol_c.specs.declared.fault.Fault.{Fault}
use Rattle.flcol_c.specs.declared.fault.Fault.TheVariants.{Refused, WrongLength}

-- a bitmap of valid items has bytes, but fewer bits than there are items
abbrev pub is_short : List ℕ → ℕ → Bool
is_short [] n = false
is_short (byte ∷ bytes) n = nat_lt (8 * length (byte ∷ bytes)) n

-- why a bitmap says not which of n items are valid, if it says it not
abbrev pub short_fault : List ℕ → ℕ → Option Fault
short_fault bitmap n = if is_short bitmap n then Some (Refused ValidityLength) else None

-- how many of n items are null
abbrev pub null_total : Validity → ℕ → ℕ
null_total valid.NonNullable n = 0
null_total valid.AllValid n = 0
null_total valid.AllInvalid n = n
null_total (valid.Array bits) n = length bits - true_count bits

-- why so many bytes are no room for the bitmap of valid items, of which so many are null, if they are none: there is a bit for each item, and may be no byte where no item is null
abbrev pub room_fault : ℕ → ℕ → ℕ → Option Fault
room_fault bytes n nulls =
    if bytes == bitmap_len n then None
    else if not (bytes == 0) then Some WrongLength
    else if nulls == 0 then None
    else Some (Refused ValidityLength)
