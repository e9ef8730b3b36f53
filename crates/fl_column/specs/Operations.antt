-- What operations make of columns, or why they make nothing.
use Rattle.std.specs.Prelude.{◌+◌, ◌+ℤ◌, ◌==◌, ◌&&◌, ◌||◌, ◌^◌, ℕ, ℤ, pos, Bool, not, List, length, map, Option, Some, None, Result, Ok, Err, ok_or, option_map, option_and_then, is_none, nat_le, nat_lt, int_le, int_lt, if◌then◌else◌, sum_by, flat_map, slice_index_or, unsigned_abs}
use Rattle.std.specs.List.{list_all, list_any}
use Rattle.fl_types.specs.declared.dtype.DType.{DType}
use Rattle.fl_types.specs.declared.dtype.DType.TheVariants as dtypes
use Rattle.fl_types.specs.declared.dtype.PType.{PType}
use Rattle.fl_types.specs.declared.dtype.Nullability.{Nullability}
use Rattle.fl_types.specs.declared.error.FastLanesError.{FastLanesError}
use Rattle.fl_types.specs.declared.error.FastLanesError.TheVariants.{NotInteger, IndexOutOfBounds, RangeOutOfBounds, LengthOverflow, MaskLength, CastNull, CastOutOfRange}
use Rattle.fl_types.specs.declared.mask.Mask.{Mask}
use Rattle.fl_types.specs.Masks.{mask_bits, mask_len}
use Rattle.fl_types.specs.Integers.{fits}
use Rattle.fl_types.specs.Bits.{between, kept}
pub use Rattle.fl_types.specs.Bits.{kept}
use Rattle.fl_types.specs.Types.{can_be_null, either_nullable, is_integer, nullability_in, with_nullability}
use Rattle.fl_column.specs.Columns.{Column, option_all}

-- ---- slice
-- the column of the items from start to below end
abbrev pub slice_of : ℕ → ℕ → Column → Column
slice_of start end c = record { dtype = c.dtype; items = between start end c.items }

-- the items from start to below end, or why there are none
abbrev pub slice_column : ℕ → ℕ → Column → Result Column FastLanesError
slice_column start end c = if nat_le start end && nat_le end (length c.items) then Ok (slice_of start end c) else Err RangeOutOfBounds

-- ---- take
-- a non-null index names an item
abbrev pub is_in_range : ℕ → Option ℤ → Bool
is_in_range len index = option_all (λ z. int_le (pos 0) z && int_lt z (pos len)) index

-- null where the index is null, else the item that it names
abbrev pub item_named : List (Option ℤ) → Option ℤ → Option ℤ
item_named items index = option_and_then (λ z. slice_index_or items (unsigned_abs z) None) index

-- the items that the indices name; nulls may stand in the result where they may in the column or in the indices
abbrev pub take_of : Column → Column → Column
take_of indices c = record { dtype = with_nullability (either_nullable (nullability_in c.dtype) (nullability_in indices.dtype)) c.dtype; items = map (item_named c.items) indices.items }

-- the items that the indices name, or why there are none
abbrev pub take_column : Column → Column → Result Column FastLanesError
take_column indices c =
    if not (is_integer c.dtype && is_integer indices.dtype) then Err NotInteger
    else if not (list_all (is_in_range (length c.items)) indices.items) then Err IndexOutOfBounds
    else Ok (take_of indices c)

-- an index that is moved on by this many places
abbrev pub moved : ℕ → Option ℤ → Option ℤ
moved start index = option_map (λ z. pos start +ℤ z) index

-- ---- ranges: a start and a length each
-- a range without items is in range wherever it starts
abbrev pub range_fits : ℕ → ℕ × ℕ → Bool
range_fits len range = (range.1 == 0) || nat_le (range.0 + range.1) len

-- the items of the ranges, one range after another
abbrev pub ranges_of : List (ℕ × ℕ) → Column → Column
ranges_of ranges c = record { dtype = c.dtype; items = flat_map (λ range. between range.0 (range.0 + range.1) c.items) ranges }

-- how many items the ranges have, where that is below 2 ^ 64
abbrev pub total_of : List (ℕ × ℕ) → Option ℕ
total_of ranges = let total = sum_by (λ range. range.1) ranges in if nat_lt total (2 ^ 64) then Some total else None

-- how many items the ranges have among so many, or why they are refused
abbrev pub ranges_total : ℕ → List (ℕ × ℕ) → Result ℕ FastLanesError
ranges_total len ranges = if not (list_all (range_fits len) ranges) then Err RangeOutOfBounds else ok_or (total_of ranges) LengthOverflow

-- the items of the ranges, or why there are none
abbrev pub ranges_column : List (ℕ × ℕ) → Column → Result Column FastLanesError
ranges_column ranges c =
    if not (is_integer c.dtype) then Err NotInteger
    else if not (list_all (range_fits (length c.items)) ranges) then Err RangeOutOfBounds
    else if is_none (total_of ranges) then Err LengthOverflow
    else Ok (ranges_of ranges c)

-- ---- filter
-- the column of the items that the mask keeps
abbrev pub filter_of : Mask → Column → Column
filter_of mask c = record { dtype = c.dtype; items = kept (mask_bits mask) c.items }

-- a mask of another length is refused before anything else; a direct call has it as a condition
abbrev pub filter_column : Mask → Column → Result Column FastLanesError
filter_column mask c =
    if not (mask_len mask == length c.items) then Err MaskLength
    else if not (is_integer c.dtype) then Err NotInteger
    else Ok (filter_of mask c)

-- ---- cast
-- the same items in an integer type, or why not
abbrev pub cast_items : PType → Nullability → List (Option ℤ) → Result Column FastLanesError
cast_items ptype nullability items = if list_all (option_all (fits ptype)) items then Ok (record { dtype = dtypes.Primitive ptype nullability; items = items }) else Err CastOutOfRange

-- the same items in the target type, or why not
abbrev pub cast_column : DType → Column → Result Column FastLanesError
cast_column (dtypes.Bool nullability) c = Err NotInteger
cast_column (dtypes.Primitive ptype nullability) c =
    if not (is_integer c.dtype) then Err NotInteger
    else if not (can_be_null nullability) && list_any is_none c.items then Err CastNull
    else cast_items ptype nullability c.items
