-- What operations make of arrays: their results' kinds, and the parts that they keep.
use Rattle.std.specs.Prelude.{◌≡◌, ◌&&◌, Bool, List, [], ◌∷◌, not, is_ok, if◌then◌else◌}
use Rattle.fl_types.specs.declared.dtype.DType.{DType}
use Rattle.fl_types.specs.declared.dtype.Nullability.TheVariants.{NonNullable}
use Rattle.fl_types.specs.declared.mask.Mask.{Mask}
use Rattle.fl_types.specs.declared.mask.Mask.TheVariants.{AllFalse, AllTrue, Values}
use Rattle.fl_types.specs.Types.{has_ptype, nullability_in, same_type, with_nullability}
use Rattle.fl_column.specs.Columns.{Column}
use Rattle.fl_column.specs.Operations.{cast_column, filter_of, ranges_of, take_of}
use Rattle.fl_bitpacking.specs.Casts.{cast_packed}
use Rattle.fl_array.specs.DeltaCasts.{cast_delta, drops_nullability}
use Rattle.fl_array.specs.Trees.{BitPackedGlobal, Delta, FoRChunked, FoRGlobal, Primitive, RLE, Tree, column}
use Rattle.fl_array.specs.Slices.{slice_tree}
use Rattle.fl_ops.specs.Normalized.{SameShown, plain_of}
use Rattle.fl_ops.specs.Operations.{Cast, Filter, Slice, Step, Take, TakeRanges}

-- ---- take, ranges and filter: plain, but below a FoR of one reference
-- the array of the items that a choice picks of a column
abbrev pub picked : (Column → Column) → Tree → Tree
picked choice (FoRGlobal encoded reference) = FoRGlobal (picked choice encoded) reference
picked choice other = Primitive (plain_of (choice (column other)))

-- the array of the items that a mask keeps; one that keeps all by its form makes a copy
abbrev pub filtered : Mask → Tree → Tree
filtered (AllTrue len) t = t
filtered (AllFalse len) t = picked (filter_of (AllFalse len)) t
filtered (Values bits) t = picked (filter_of (Values bits)) t

-- ---- cast: in place or over the parts' casts where the integer type stays, else plain
-- the plain array of a column's items in another type
abbrev pub plain_cast : DType → Column → Tree
plain_cast target c = Primitive (plain_of (record { dtype = target; items = c.items }))

-- the type of the run values in a cast
abbrev pub values_target : DType → DType
values_target target = with_nullability NonNullable target

-- the type of the run indices in a cast: nulls may stand in them where they may in the target
abbrev pub indices_target : DType → Tree → DType
indices_target target indices = with_nullability (nullability_in target) (column indices).dtype

-- all stored run values and all stored run indices cast, also those that the array does not show
abbrev pub parts_cast : DType → Tree → Tree → Bool
parts_cast target values indices = is_ok (cast_column (values_target target) (column values)) && is_ok (cast_column (indices_target target indices) (column indices))

-- the array of the same items in another type, which has them
abbrev pub cast_to : DType → Tree → Tree
cast_to target (BitPackedGlobal parts width) =
    if has_ptype parts.ptype target then BitPackedGlobal (cast_packed (nullability_in target) parts) width
    else plain_cast target (column (BitPackedGlobal parts width))
cast_to target (FoRGlobal encoded reference) =
    if same_type (column encoded).dtype target then FoRGlobal (cast_to target encoded) reference
    else plain_cast target (column (FoRGlobal encoded reference))
cast_to target (FoRChunked encoded references offset) =
    if same_type (column encoded).dtype target then FoRChunked (cast_to target encoded) references offset
    else plain_cast target (column (FoRChunked encoded references offset))
cast_to target (Delta bases deltas parts) =
    if same_type (column bases).dtype target && not (drops_nullability (column (Delta bases deltas parts)).dtype target)
    then Delta bases deltas (cast_delta (nullability_in target) parts)
    else plain_cast target (column (Delta bases deltas parts))
cast_to target (RLE values indices offsets window) =
    if parts_cast target values indices then RLE (cast_to (values_target target) values) (cast_to (indices_target target indices) indices) offsets window
    else plain_cast target (column (RLE values indices offsets window))
cast_to target other = plain_cast target (column other)

-- ---- one operation after another
-- the array that an operation makes of one, where it makes one
abbrev pub result_of : Step → Tree → Tree
result_of (Slice start end) t = slice_tree start end t
result_of (Take indices) t = picked (take_of (column indices)) t
result_of (TakeRanges ranges) t = picked (ranges_of ranges) t
result_of (Filter mask) t = filtered mask t
result_of (Cast target) t = cast_to target t

-- the array is the one that the mask keeps: by its form a copy, else slots under nulls aside
abbrev pub IsFiltered : Mask → Tree → Tree → Type 0
IsFiltered (AllTrue len) t next = next ≡ t
IsFiltered (AllFalse len) t next = SameShown next (filtered (AllFalse len) t)
IsFiltered (Values bits) t next = SameShown next (filtered (Values bits) t)

-- the array is the one that an operation makes: a slice and a copy exactly, else slots under nulls aside
abbrev pub IsMade : Step → Tree → Tree → Type 0
IsMade (Slice start end) t next = next ≡ slice_tree start end t
IsMade (Filter mask) t next = IsFiltered mask t next
IsMade (Take indices) t next = SameShown next (result_of (Take indices) t)
IsMade (TakeRanges ranges) t next = SameShown next (result_of (TakeRanges ranges) t)
IsMade (Cast target) t next = SameShown next (result_of (Cast target) t)

-- The operations lead from the first array to the last: each makes, of the array before it, the one that it is to make. No operation makes the same array.
abbrev pub IsResult : Tree → List Step → Tree → Type 0
IsResult first [] last = last ≡ first
IsResult first (step ∷ steps) last = (next : Tree) × (IsMade step first next × IsResult next steps last)
