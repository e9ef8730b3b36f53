-- Answers for the items that a mask keeps.
use Rattle.std.proofs.Common.{◌≡◌, ◌&&◌, ℤ, List, [], ◌∷◌, length, Bool, true, false, Option, Some, None, Result, Ok, Err, refl, ap, sym, ◌∙◌}
use Rattle.std.specs.Prelude.{filter_map, if◌then◌else◌}
use Rattle.std.specs.List.{list_all}
use Rattle.fl_types.specs.declared.error.FastLanesError.{FastLanesError}
use Rattle.fl_types.specs.declared.error.FastLanesError.TheVariants.{NotInteger}
use Rattle.fl_types.specs.declared.mask.Mask.{Mask}
use Rattle.fl_types.specs.Masks.{mask_bits, mask_len}
use Rattle.fl_types.specs.Refusals.{Answers}
use Rattle.fl_types.specs.Types.{is_integer}
use Rattle.fl_column.specs.Columns.{Column, option_all}
use Rattle.fl_column.specs.Operations.{filter_of}
use Rattle.fl_column.proofs.ListLaws.{all_kept}
use Rattle.fl_scan.specs.Totals.{of_integers, of_kept, valid_column, valid_items}
use Rattle.fl_scan.proofs.KeptColumns.{kept_answer}
use Rattle.fl_scan.proofs.ValidLaws.{valid_all}

-- the items of a column of integers
pub integers_are : (c : Column) (xs ys : List ℤ) → is_integer c.dtype ≡ true → of_integers c xs ≡ Ok ys → xs ≡ ys
integers_are c xs ys typed e = each (is_integer c.dtype) typed e
  where
    each : (b : Bool) → b ≡ true → (if b then Ok xs else Err NotInteger) ≡ Ok ys → xs ≡ ys
    each true h e = cc
    each false h e = cc

-- an answer of the valid items alone
pub answered_under : {A B : Type 0} (view : A → B) (f : List ℤ → B) (m : Mask) (c s : Column) (r : Result A FastLanesError) → mask_len m ≡ length c.items → is_integer c.dtype ≡ true → of_integers c (valid_items (filter_of m c)) ≡ Ok (valid_items s)
    → Answers view r (Ok (f (valid_items s))) → Answers view r (of_kept m c (λ d. f (valid_items d)))
answered_under view f m c s r long typed same answer =
    let items : valid_items (filter_of m c) ≡ valid_items s = integers_are c (valid_items (filter_of m c)) (valid_items s) typed same in
    rw (kept_answer m c (λ d. f (valid_items d)) long typed, items) answer

-- the valid items of the column that is kept
pub kept_valid : (c x k : Column) → of_integers c (valid_column x) ≡ Ok k → of_integers c (valid_items x) ≡ Ok (valid_items k)
kept_valid c x k e = each (is_integer c.dtype) e
  where
    each : (b : Bool) → (if b then Ok (valid_column x) else Err NotInteger) ≡ Ok k → (if b then Ok (valid_items x) else Err NotInteger) ≡ Ok (valid_items k)
    each true e = let same : valid_column x ≡ k = cc in ap (λ zs. Ok zs) (sym (valid_all (valid_items x)) ∙ ap valid_items same)
    each false e = cc

-- the integers fit where the valid items do
all_there : (p : ℤ → Bool) (items : List (Option ℤ)) → list_all (option_all p) items ≡ list_all p (filter_map (λ o. o) items)
all_there p [] = refl
all_there p (None ∷ items) = all_there p items
all_there p (Some z ∷ items) = ap (λ b. p z && b) (all_there p items)

pub all_fit_under : (p : ℤ → Bool) (m : Mask) (c s : Column) → is_integer c.dtype ≡ true → of_integers c (valid_items (filter_of m c)) ≡ Ok (valid_items s) → list_all (option_all p) c.items ≡ true → list_all (option_all p) s.items ≡ true
all_fit_under p m c s typed same fit =
    let items : valid_items (filter_of m c) ≡ valid_items s = integers_are c (valid_items (filter_of m c)) (valid_items s) typed same in
    all_there p s.items ∙ (ap (list_all p) (sym items) ∙ (sym (all_there p (filter_of m c).items) ∙ all_kept (option_all p) (mask_bits m) c.items fit))
