-- Definitions held against worked examples, by computing.
use Rattle.std.proofs.Common.{◌≡◌, ℤ, pos, negsuc, true, false, List, [], ◌∷◌, Option, Some, None, Ok, Err, refl}
use Rattle.fl_types.specs.declared.dtype.PType.TheVariants.{U8, U16, I8}
use Rattle.fl_types.specs.declared.dtype.DType.TheVariants as dtypes
use Rattle.fl_types.specs.declared.dtype.Nullability.TheVariants.{NonNullable, Nullable}
use Rattle.fl_types.specs.declared.error.FastLanesError.TheVariants.{NotInteger, IndexOutOfBounds, RangeOutOfBounds, MaskLength, CastNull, CastOutOfRange}
use Rattle.fl_types.specs.declared.mask.Mask.TheVariants.{Values}
use Rattle.fl_types.specs.declared.query.CompareOperator.TheVariants.{NotEq}
use Rattle.fl_types.specs.declared.query.StrictComparison.TheVariants.{Strict, NonStrict}
use Rattle.fl_types.specs.declared.validity.Validity.TheVariants as valid
use Rattle.fl_types.specs.Integers.{fits, pattern_of, read_as}
use Rattle.fl_column.specs.Columns.{Column, column_of_primitive, is_column}
use Rattle.fl_column.specs.Operations.{cast_column, filter_column, ranges_column, slice_column, take_column}
use Rattle.fl_column.specs.Queries.{are_constant, are_sorted, are_strictly_sorted, between_column, compare_column}

abbrev bytes : List (Option ℤ) → Column
bytes items = record { dtype = dtypes.Primitive U8 Nullable; items = items }

abbrev indices : List (Option ℤ) → Column
indices items = record { dtype = dtypes.Primitive I8 Nullable; items = items }

abbrev words : List (Option ℤ) → Column
words items = record { dtype = dtypes.Primitive U16 Nullable; items = items }

abbrev bools : List (Option ℤ) → Column
bools items = record { dtype = dtypes.Bool Nullable; items = items }

-- items 10, null, 30 at 2, null, 0 are 30, null, 10
taken : take_column (bytes (Some (pos 2) ∷ None ∷ Some (pos 0) ∷ [])) (bytes (Some (pos 10) ∷ None ∷ Some (pos 30) ∷ [])) ≡ Ok (bytes (Some (pos 30) ∷ None ∷ Some (pos 10) ∷ []))
taken = refl

-- an index at the length, and a negative one
taken_beyond : take_column (bytes (Some (pos 3) ∷ [])) (bytes (Some (pos 10) ∷ None ∷ Some (pos 30) ∷ [])) ≡ Err IndexOutOfBounds
taken_beyond = refl

taken_below : take_column (indices (Some (negsuc 0) ∷ [])) (bytes (Some (pos 10) ∷ [])) ≡ Err IndexOutOfBounds
taken_below = refl

-- a null index names nothing, also of no items
taken_none : take_column (indices (None ∷ [])) (bytes []) ≡ Ok (bytes (None ∷ []))
taken_none = refl

-- slices: the whole, one that is reversed, one beyond
sliced : slice_column 1 3 (bytes (Some (pos 1) ∷ Some (pos 2) ∷ None ∷ [])) ≡ Ok (bytes (Some (pos 2) ∷ None ∷ []))
sliced = refl

sliced_reversed : slice_column 2 1 (bytes (Some (pos 1) ∷ Some (pos 2) ∷ [])) ≡ Err RangeOutOfBounds
sliced_reversed = refl

sliced_beyond : slice_column 0 3 (bytes (Some (pos 1) ∷ Some (pos 2) ∷ [])) ≡ Err RangeOutOfBounds
sliced_beyond = refl

-- ranges 2+2, 9+0, 0+1 of 0, 1, 2, 3 are 2, 3, 0
ranged : ranges_column ((2, 2) ∷ (9, 0) ∷ (0, 1) ∷ []) (bytes (Some (pos 0) ∷ Some (pos 1) ∷ Some (pos 2) ∷ Some (pos 3) ∷ [])) ≡ Ok (bytes (Some (pos 2) ∷ Some (pos 3) ∷ Some (pos 0) ∷ []))
ranged = refl

ranged_beyond : ranges_column ((3, 2) ∷ []) (bytes (Some (pos 0) ∷ Some (pos 1) ∷ Some (pos 2) ∷ Some (pos 3) ∷ [])) ≡ Err RangeOutOfBounds
ranged_beyond = refl

-- filters
kept : filter_column (Values (true ∷ false ∷ true ∷ [])) (bytes (Some (pos 1) ∷ Some (pos 2) ∷ None ∷ [])) ≡ Ok (bytes (Some (pos 1) ∷ None ∷ []))
kept = refl

kept_short : filter_column (Values (true ∷ [])) (bytes (Some (pos 1) ∷ Some (pos 2) ∷ [])) ≡ Err MaskLength
kept_short = refl

-- 300 and a null in a non-nullable byte are refused for the null, 300 alone for its size
cast_null : cast_column (dtypes.Primitive U8 NonNullable) (words (Some (pos 300) ∷ None ∷ [])) ≡ Err CastNull
cast_null = refl

cast_large : cast_column (dtypes.Primitive U8 NonNullable) (words (Some (pos 300) ∷ [])) ≡ Err CastOutOfRange
cast_large = refl

cast_bools : cast_column (dtypes.Primitive U8 Nullable) (bools (Some (pos 1) ∷ [])) ≡ Err NotInteger
cast_bools = refl

-- a null, 1, 1: sorted, not strictly, not constant; nulls alone: constant
rising : are_sorted (None ∷ Some (pos 1) ∷ Some (pos 1) ∷ []) ≡ true
rising = refl

not_strict : are_strictly_sorted (None ∷ Some (pos 1) ∷ Some (pos 1) ∷ []) ≡ false
not_strict = refl

not_constant : are_constant (None ∷ Some (pos 1) ∷ Some (pos 1) ∷ []) ≡ false
not_constant = refl

nulls_constant : are_constant (None ∷ None ∷ []) ≡ true
nulls_constant = refl

nulls_not_strict : are_strictly_sorted (None ∷ None ∷ []) ≡ false
nulls_not_strict = refl

null_last : are_sorted (Some (pos 1) ∷ None ∷ []) ≡ false
null_last = refl

-- comparisons leave a null; no item lies between reversed bounds
compared : compare_column NotEq (pos 2) (bytes (Some (pos 2) ∷ None ∷ Some (pos 3) ∷ [])) ≡ Ok (bools (Some (pos 0) ∷ None ∷ Some (pos 1) ∷ []))
compared = refl

between_strict : between_column (pos 1) (pos 3) (record { lower_strict = Strict; upper_strict = NonStrict }) (bytes (Some (pos 1) ∷ Some (pos 2) ∷ Some (pos 3) ∷ None ∷ [])) ≡ Ok (bools (Some (pos 0) ∷ Some (pos 1) ∷ Some (pos 1) ∷ None ∷ []))
between_strict = refl

between_reversed : between_column (pos 3) (pos 1) (record { lower_strict = NonStrict; upper_strict = NonStrict }) (bytes (Some (pos 1) ∷ Some (pos 2) ∷ Some (pos 3) ∷ [])) ≡ Ok (bools (Some (pos 0) ∷ Some (pos 0) ∷ Some (pos 0) ∷ []))
between_reversed = refl

-- patterns of 8 bits
pattern : pattern_of I8 (negsuc 55) ≡ 200
pattern = refl

pattern_back : read_as I8 200 ≡ negsuc 55
pattern_back = refl

beyond_a_byte : fits U8 (pos 256) ≡ false
beyond_a_byte = refl

-- a slot under a null is no item, and no number beyond the type is one
hidden : column_of_primitive (record { ptype = U8; slots = pos 7 ∷ pos 9 ∷ []; validity = valid.Array (true ∷ false ∷ []) }) ≡ bytes (Some (pos 7) ∷ None ∷ [])
hidden = refl

no_column : is_column (bytes (Some (pos 256) ∷ [])) ≡ false
no_column = refl

no_null_there : is_column (record { dtype = dtypes.Primitive U8 NonNullable; items = None ∷ [] }) ≡ false
no_null_there = refl
