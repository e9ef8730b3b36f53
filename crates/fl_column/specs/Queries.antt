-- What a column answers to a query.
use Rattle.std.specs.Prelude.{◌&&◌, ℕ, ℤ, Bool, true, false, not, List, [], ◌∷◌, length, map, Option, Some, None, Result, Ok, Err, option_map, slice_index_or, int_lt, int_le, nat_lt, if◌then◌else◌}
use Rattle.std.specs.List.{list_all}
use Rattle.std.specs.Ordering.{int_eq}
use Rattle.fl_types.specs.declared.error.FastLanesError.{FastLanesError}
use Rattle.fl_types.specs.declared.error.FastLanesError.TheVariants.{NotInteger, IndexOutOfBounds}
use Rattle.fl_types.specs.declared.query.CompareOperator.{CompareOperator}
use Rattle.fl_types.specs.declared.query.CompareOperator.TheVariants.{Eq, NotEq, Gt, Gte, Lt, Lte}
use Rattle.fl_types.specs.declared.query.StrictComparison.{StrictComparison}
use Rattle.fl_types.specs.declared.query.StrictComparison.TheVariants.{Strict, NonStrict}
use Rattle.fl_types.specs.declared.query.BetweenOptions.{BetweenOptions}
use Rattle.fl_types.specs.declared.dtype.DType.TheVariants as dtypes
use Rattle.fl_column.specs.Columns.{Column}
use Rattle.fl_types.specs.Types.{is_integer, nullability_in}
use Rattle.fl_types.specs.Values.{ScalarParts, bool_number}

-- ---- comparisons
-- the item compares with the constant in this way
abbrev pub holds : CompareOperator → ℤ → ℤ → Bool
holds Eq constant z = int_eq z constant
holds NotEq constant z = not (int_eq z constant)
holds Gt constant z = int_lt constant z
holds Gte constant z = int_le constant z
holds Lt constant z = int_lt z constant
holds Lte constant z = int_le z constant

-- x is below y, or at it where that is allowed
abbrev pub is_before : StrictComparison → ℤ → ℤ → Bool
is_before Strict x y = int_lt x y
is_before NonStrict x y = int_le x y

-- the item lies between the bounds
abbrev pub is_between : BetweenOptions → ℤ → ℤ → ℤ → Bool
is_between options lower upper z = is_before options.lower_strict lower z && is_before options.upper_strict z upper

-- a test of each item, null at a null; the answer is nullable where the column is
abbrev pub tested : (ℤ → Bool) → Column → Column
tested test c = record { dtype = dtypes.Bool (nullability_in c.dtype); items = map (option_map (λ z. bool_number (test z))) c.items }

-- the comparison of each item, or why there is none
abbrev pub compare_column : CompareOperator → ℤ → Column → Result Column FastLanesError
compare_column operator constant c = if is_integer c.dtype then Ok (tested (holds operator constant) c) else Err NotInteger

-- the range test of each item, or why there is none
abbrev pub between_column : ℤ → ℤ → BetweenOptions → Column → Result Column FastLanesError
between_column lower upper options c = if is_integer c.dtype then Ok (tested (is_between options lower upper) c) else Err NotInteger

-- ---- order: null equals null and stands below every integer
-- two items are equal
abbrev pub same_item : Option ℤ → Option ℤ → Bool
same_item None None = true
same_item None (Some y) = false
same_item (Some x) None = false
same_item (Some x) (Some y) = int_eq x y

-- the first item is below the second
abbrev pub is_below : Option ℤ → Option ℤ → Bool
is_below None None = false
is_below None (Some y) = true
is_below (Some x) None = false
is_below (Some x) (Some y) = int_lt x y

-- all items are equal
abbrev pub are_constant : List (Option ℤ) → Bool
are_constant items = list_all (λ x. list_all (same_item x) items) items

-- the test holds of each item and the next
abbrev pub each_next : {A : Type 0} → (A → A → Bool) → List A → Bool
each_next test [] = true
each_next test (x ∷ []) = true
each_next test (x ∷ y ∷ rest) = test x y && each_next test (y ∷ rest)

-- an item may stand before the next one: it is not above it or, where the order is strict, below it
abbrev pub in_order : Bool → Option ℤ → Option ℤ → Bool
in_order true x y = is_below x y
in_order false x y = not (is_below y x)

-- no item is above the next
abbrev pub are_sorted : List (Option ℤ) → Bool
are_sorted items = each_next (λ x y. not (is_below y x)) items

-- each item is below the next
abbrev pub are_strictly_sorted : List (Option ℤ) → Bool
are_strictly_sorted items = each_next is_below items

-- whether all items are equal, or why there is no answer
abbrev pub is_constant_column : Column → Result Bool FastLanesError
is_constant_column c = if is_integer c.dtype then Ok (are_constant c.items) else Err NotInteger

-- whether the items rise, strictly or not, or why there is no answer
abbrev pub is_sorted_column : Bool → Column → Result Bool FastLanesError
is_sorted_column strict c = if is_integer c.dtype then Ok (if strict then are_strictly_sorted c.items else are_sorted c.items) else Err NotInteger

-- ---- one item
-- the item at an index, with the column's type
abbrev pub scalar_in : Column → ℕ → ScalarParts
scalar_in c i = record { dtype = c.dtype; value = slice_index_or c.items i None }

-- the item at an index, or why there is none
abbrev pub scalar_of_column : ℕ → Column → Result ScalarParts FastLanesError
scalar_of_column i c = if nat_lt i (length c.items) then Ok (scalar_in c i) else Err IndexOutOfBounds
