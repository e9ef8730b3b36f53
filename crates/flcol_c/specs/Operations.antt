-- Arrays that operations make for C.
use Rattle.std.specs.Prelude.{◌≡◌, ◌==◌, ℕ, ℤ, pos, Option, Some, None, List, length, map, Ok, if◌then◌else◌}
use Rattle.fl_types.specs.declared.dtype.DType.{DType}
use Rattle.fl_types.specs.declared.dtype.DType.TheVariants as dtypes
use Rattle.fl_types.specs.declared.dtype.PType.{PType}
use Rattle.fl_types.specs.declared.dtype.PType.TheVariants.{U64}
use Rattle.fl_types.specs.declared.dtype.Nullability.TheVariants.{NonNullable, Nullable}
use Rattle.fl_types.specs.declared.error.FastLanesError.TheVariants.{MaskLength, UnknownType}
use Rattle.fl_types.specs.declared.mask.Mask.{Mask}
use Rattle.fl_types.specs.declared.mask.Mask.TheVariants.{Values}
use Rattle.fl_column.specs.Columns.{Column, ConstantParts, column_of_primitive}
use Rattle.fl_column.specs.Operations.{cast_column, filter_column, ranges_column, ranges_of, take_column, take_of}
use Rattle.fl_array.specs.Trees.{Tree, column}
use Rattle.fl_ops.specs.Normalized.{SameShown}
use Rattle.fl_ops.specs.Results.{IsFiltered, cast_to, picked}
use Rattle.fl_column.specs.Bitmaps.{bitmap_len, bits_in}
use Rattle.flcol_c.specs.declared.fault.Fault.{Fault}
use Rattle.flcol_c.specs.declared.fault.Fault.TheVariants.{Refused}
use Rattle.flcol_c.specs.declared.ranges.ItemRange.{ItemRange}
use Rattle.flcol_c.specs.Statuses.{refusal_in}
use Rattle.flcol_c.specs.Values.{plain_in}

-- the column of indices and a bitmap of the valid ones
abbrev pub indices_in : List ℕ → List ℕ → Column
indices_in indices bitmap = column_of_primitive (plain_in U64 (map pos indices) bitmap)

-- why the items at indices are not taken, if they are not: the first refusal of the take
abbrev pub take_fault : List ℕ → List ℕ → Column → Option Fault
take_fault indices bitmap c = refusal_in (take_column (indices_in indices bitmap) c)

-- the array has the column and the parts of a take
abbrev pub IsTaken : List ℕ → List ℕ → Tree → Tree → Type 0
IsTaken indices bitmap t taken = (take_column (indices_in indices bitmap) (column t) ≡ Ok (column taken)) × SameShown taken (picked (take_of (indices_in indices bitmap)) t)

-- starts and lengths
abbrev pub pairs_of : List ItemRange → List (ℕ × ℕ)
pairs_of ranges = map (λ range. (range.start, range.len)) ranges

-- the array has the column and the parts of a take of ranges
abbrev pub AreTaken : List ItemRange → Tree → Tree → Type 0
AreTaken ranges t taken = (ranges_column (pairs_of ranges) (column t) ≡ Ok (column taken)) × SameShown taken (picked (ranges_of (pairs_of ranges)) t)

-- the mask of the first n bits
abbrev pub mask_in : List ℕ → ℕ → Mask
mask_in bitmap n = Values (bits_in bitmap n)

-- why a bitmap of so many bytes is no mask of a column, if it is none: it has not a bit for each item
abbrev pub mask_fault : ℕ → Column → Option Fault
mask_fault bytes c = if bytes == bitmap_len (length c.items) then None else Some (Refused MaskLength)

-- why items are not filtered by a bitmap, if they are not: the refusal of the filter
abbrev pub filter_fault : List ℕ → Column → Option Fault
filter_fault bitmap c = refusal_in (filter_column (mask_in bitmap (length c.items)) c)

-- the array has the column and the parts of a filter by a bitmap
abbrev pub IsFilteredBy : List ℕ → Tree → Tree → Type 0
IsFilteredBy bitmap t kept = let mask = mask_in bitmap (length (column t).items) in (filter_column mask (column t) ≡ Ok (column kept)) × IsFiltered mask t kept

-- why a byte names no type, if it names none
abbrev pub type_fault : Option DType → Option Fault
type_fault None = Some (Refused UnknownType)
type_fault (Some target) = None

-- why a column is not cast to the type that a byte says, if it is not: the first refusal of the cast
abbrev pub cast_fault : Option DType → Column → Option Fault
cast_fault None c = None
cast_fault (Some target) c = refusal_in (cast_column target c)

-- the array has the column and the parts of a cast to the type that a byte says
abbrev pub IsCast : Option DType → Tree → Tree → Type 0
IsCast None t made = ⊥
IsCast (Some target) t made = (cast_column target (column t) ≡ Ok (column made)) × SameShown made (cast_to target t)

-- a value of a type, or a null where the number is not 0, so many times
abbrev pub repeated : PType → ℤ → ℕ → ℕ → ConstantParts
repeated ptype value null len = record {
  scalar = if null == 0 then record { dtype = dtypes.Primitive ptype NonNullable; value = Some value } else record { dtype = dtypes.Primitive ptype Nullable; value = None };
  len = len;
}
