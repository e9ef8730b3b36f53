-- Bitmaps of answers that C joins, turns and counts.
use Rattle.std.specs.Prelude.{ℤ, pos, Option, Some, None}
use Rattle.fl_types.specs.declared.error.FastLanesError.TheVariants as refusals
use Rattle.fl_bitmaps.specs.declared.error.BitmapError.{BitmapError}
use Rattle.fl_bitmaps.specs.declared.error.BitmapError.TheVariants as bitmaps
use Rattle.flcol_c.specs.declared.fault.Fault.{Fault}
use Rattle.flcol_c.specs.declared.fault.Fault.TheVariants.{Refused, WrongLength}
use Rattle.flcol_c.specs.Statuses.{status_of}

-- the fault of an error of bitmaps
abbrev pub of_bitmaps : BitmapError → Fault
of_bitmaps bitmaps.WrongLength = WrongLength
of_bitmaps bitmaps.ValidityLength = Refused refusals.ValidityLength

-- the status of bitmaps that are refused, or 0 where they are not
abbrev pub bitmaps_status : Option BitmapError → ℤ
bitmaps_status None = pos 0
bitmaps_status (Some error) = status_of (of_bitmaps error)
