-- What is asked of a column of integers as a whole.
use Rattle.std.specs.Prelude.{◌+ℤ◌, ◌==◌, ℕ, ℤ, pos, Bool, false, List, [], ◌∷◌, Option, None, Some, Result, Ok, Err, count_by, filter, filter_map, is_none, length, map, not, if◌then◌else◌}
use Rattle.std.specs.Int.{int_max, int_min}
use Rattle.std.specs.List.{reduce}
use Rattle.std.specs.Ordering.{int_eq}
use Rattle.fl_types.specs.declared.error.FastLanesError.{FastLanesError}
use Rattle.fl_types.specs.declared.error.FastLanesError.TheVariants.{MaskLength, NotInteger}
use Rattle.fl_types.specs.declared.mask.Mask.{Mask}
use Rattle.fl_types.specs.Masks.{mask_len}
use Rattle.fl_types.specs.Types.{is_integer}
use Rattle.fl_column.specs.Columns.{Column}
use Rattle.fl_column.specs.Operations.{filter_of}

-- the items that are not null, in order
abbrev pub valid_items : Column → List ℤ
valid_items c = filter_map (λ item. item) c.items

-- the sum of integers
abbrev pub total : List ℤ → ℤ
total [] = pos 0
total (z ∷ zs) = z +ℤ total zs

-- how many items are null
abbrev pub null_count_of : Column → ℕ
null_count_of c = count_by is_none c.items

-- how many items are valid and pass a test
abbrev pub count_of : (ℤ → Bool) → Column → ℕ
count_of test c = count_by test (valid_items c)

-- the sum of the valid items
abbrev pub sum_of : Column → ℤ
sum_of c = total (valid_items c)

-- the least valid item, if one is valid
abbrev pub least_item : Column → Option ℤ
least_item c = reduce int_min (valid_items c)

-- the greatest valid item, if one is valid
abbrev pub greatest_item : Column → Option ℤ
greatest_item c = reduce int_max (valid_items c)

-- the answer where the column is of integers, or why there is none
abbrev pub of_integers : {A : Type 0} → Column → A → Result A FastLanesError
of_integers c answer = if is_integer c.dtype then Ok answer else Err NotInteger

-- the answer for the items that a mask keeps, or why there is none
abbrev pub of_kept : {A : Type 0} → Mask → Column → (Column → A) → Result A FastLanesError
of_kept mask c answer = if not (mask_len mask == length c.items) then Err MaskLength else of_integers c (answer (filter_of mask c))

-- the column of the valid items
abbrev pub valid_column : Column → Column
valid_column c = record { dtype = c.dtype; items = map (λ z. Some z) (valid_items c) }

-- the column of the valid items that pass a test
abbrev pub filtered_by : (ℤ → Bool) → Column → Column
filtered_by test c = record { dtype = c.dtype; items = map (λ z. Some z) (filter test (valid_items c)) }

-- the answer is there, and true
abbrev pub is_true : Option ℤ → Bool
is_true None = false
is_true (Some answer) = int_eq answer (pos 1)
