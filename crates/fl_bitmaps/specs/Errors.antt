-- What bitmaps are refused.
use Rattle.std.specs.Prelude.{◌==◌, ◌||◌, ◌&&◌, ℕ, Bool, not, Option, Some, None, Result, Ok, Err, if◌then◌else◌}
use Rattle.fl_column.specs.Bitmaps.{bitmap_len}
use Rattle.fl_bitmaps.specs.declared.error.BitmapError.{BitmapError}
use Rattle.fl_bitmaps.specs.declared.error.BitmapError.TheVariants.{ValidityLength, WrongLength}

-- so many bytes are a bitmap of those answers that are known, of so many bytes of answers
abbrev pub is_validity_len : ℕ → ℕ → Bool
is_validity_len bytes bits = bytes == bits || bytes == 0

-- why bitmaps of so many bytes are not joined, if they are not: the answers and those that are known, and the others
abbrev pub joined_error : ℕ → ℕ → ℕ → ℕ → Option BitmapError
joined_error bits validity other other_validity =
    if not (other == bits && is_validity_len validity bits && is_validity_len other_validity bits) then Some WrongLength
    else if validity == 0 && not (other_validity == 0) then Some ValidityLength
    else None

-- why so many bytes are not those of n answers, if they are not
abbrev pub turned_error : ℕ → ℕ → Option BitmapError
turned_error n bits = if bits == bitmap_len n then None else Some WrongLength

-- why n answers of so many bytes, and so many of those that are known, are not counted, if they are not
abbrev pub counted_error : ℕ → ℕ → ℕ → Option BitmapError
counted_error n bits validity = if bits == bitmap_len n && is_validity_len validity bits then None else Some WrongLength

-- an error, or what there is without one
abbrev pub unless : {A : Type 0} → Option BitmapError → A → Result A BitmapError
unless None x = Ok x
unless (Some error) x = Err error
