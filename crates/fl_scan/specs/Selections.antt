-- Which of the items that a mask keeps pass a test.
use Rattle.std.specs.Prelude.{◌==◌, ◌&&◌, ℤ, Bool, false, List, Option, None, Some, Result, Err, length, not, slice_index_or, if◌then◌else◌}
use Rattle.fl_types.specs.declared.error.FastLanesError.{FastLanesError}
use Rattle.fl_types.specs.declared.error.FastLanesError.TheVariants.{MaskLength}
use Rattle.fl_types.specs.declared.mask.Mask.{Mask}
use Rattle.fl_types.specs.declared.validity.Validity.{Validity}
use Rattle.fl_types.specs.Bits.{tabulate}
use Rattle.fl_types.specs.Masks.{mask_bits, mask_len}
use Rattle.fl_column.specs.Columns.{Column, integers_in}
use Rattle.fl_scan.specs.Counts.{both, marked_from, passed_in}
use Rattle.fl_scan.specs.Totals.{of_integers}

-- the item is not null and passes a test
abbrev pub is_passed : (ℤ → Bool) → Option ℤ → Bool
is_passed test None = false
is_passed test (Some z) = test z

-- which of the items that a mask keeps are not null and pass a test
abbrev pub passed_under : Mask → (ℤ → Bool) → Column → List Bool
passed_under mask test c = tabulate (λ i. slice_index_or (mask_bits mask) i false && is_passed test (slice_index_or c.items i None)) (length c.items)

-- the answer under a mask for as many items, or why there is none
abbrev pub under_mask : {A : Type 0} → Mask → Column → A → Result A FastLanesError
under_mask mask c answer = if not (mask_len mask == length c.items) then Err MaskLength else of_integers c answer

-- which items are marked and pass a test
abbrev pub passing_marks : (ℤ → Bool) → Validity → Column → List Bool
passing_marks test marks c = tabulate (both (marked_from marks 0) (passed_in test (integers_in c))) (length c.items)
