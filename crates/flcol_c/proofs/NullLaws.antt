-- How many items of a column are null.
use Rattle.std.proofs.Common.{◌≡◌, ℕ, ℤ, ◌+◌, ◌<◌, List, [], ◌∷◌, suc, length, get_or, count_by, Bool, true, false, not, Option, Some, None, IsTrue, cond, arith, ◌∙◌, ap, sym, refl}
use Rattle.std.specs.Prelude.{is_none, is_some}
use Rattle.std.proofs.lemmas.List.Sums.{sum_by-cons}
use Rattle.fl_types.specs.declared.validity.Validity.{Validity}
use Rattle.fl_types.specs.Validities.{covers, is_valid_at, items_of}
use Rattle.fl_column.specs.Columns.{Column}
use Rattle.fl_column.proofs.ItemLaws.{get_or-items_of, length-items_of}
use Rattle.fl_array.specs.Reads.{AreItemsOf, IsValidityOf}
use Rattle.fl_bitmaps.specs.Bitmaps.{items_in, validity_in}
use Rattle.flcol_c.specs.Bitmaps.{null_total, room_fault}
use Rattle.flcol_c.specs.Reading.{nulls_in}
use Rattle.flcol_c.proofs.ValidityLaws.{items_marked, nulls_counted}

counted : {A : Type 0} (x : Option A) (xs : List (Option A)) → count_by is_none (x ∷ xs) ≡ cond (is_none x) 1 0 + count_by is_none xs
counted x xs = sum_by-cons (λ y. cond (is_none y) 1 0) x xs

same_nulls : {A B : Type 0} (xs : List (Option A)) (ys : List (Option B)) → length xs ≡ length ys → ((i : ℕ) → i < length xs → is_none (get_or xs i None) ≡ is_none (get_or ys i None)) → count_by is_none xs ≡ count_by is_none ys
same_nulls [] [] e h = refl
same_nulls [] (y ∷ ys) e h = absurd (omega arith)
same_nulls (x ∷ xs) [] e h = absurd (omega arith)
same_nulls (x ∷ xs) (y ∷ ys) e h =
    let first : ◌≡◌ {A = ℕ} (cond (is_none x) 1 0) (cond (is_none y) 1 0) = ap (λ b. cond b 1 0) (h 0 (omega arith)) in
    let rest : count_by is_none xs ≡ count_by is_none ys = same_nulls xs ys (omega arith) (λ i below. h (suc i) (omega arith)) in
    let here = counted x xs in
    let there = counted y ys in
    omega (arith, first, rest, here, there)

no_item : {A : Type 0} (valid : Bool) (x : A) → is_none (cond valid (Some x) None) ≡ not valid
no_item true x = refl
no_item false x = refl

not_there : {A : Type 0} (x : Option A) → not (is_some x) ≡ is_none x
not_there None = refl
not_there (Some x) = refl

-- the nulls that a column's validity counts are the column's
pub nulls_of_validity : (v : Validity) (c : Column) → IsValidityOf v c → null_total v (length c.items) ≡ nulls_in c
nulls_of_validity v c h =
    let long = length-items_of v c.items h.covered in
    sym (nulls_counted v c.items h.covered)
    ∙ same_nulls (items_of v c.items) c.items long (λ i below. let within : i < length c.items = omega (arith, long) in
    ap is_none (get_or-items_of v c.items i None h.covered within) ∙ no_item (is_valid_at v i) (get_or c.items i None) ∙ (ap not (h.valid i within) ∙ not_there (get_or c.items i None)))

-- the room for the bitmap of a column's validity
pub room_of_validity : (bytes n : ℕ) (v : Validity) (c : Column) → IsValidityOf v c → n ≡ length c.items → room_fault bytes n (null_total v n) ≡ room_fault bytes (length c.items) (nulls_in c)
room_of_validity bytes n v c of e = rw (e, nulls_of_validity v c of) refl

-- the items that are read under the bitmap of the validity
pub items_read : (v : Validity) (integers : List ℤ) (n : ℕ) (bitmap : List ℕ) (c : Column) → IsValidityOf v c → AreItemsOf integers c → length integers ≡ n → n ≡ length c.items
    → ((i : ℕ) → i < n → is_valid_at (validity_in bitmap n) i ≡ is_valid_at v i) → c.items ≡ items_in integers bitmap
items_read v integers n bitmap c of are long size same =
    let covered : IsTrue (covers v (length integers)) = rw (long, size) of.covered in
    let alike : (i : ℕ) → i < length integers → is_valid_at (validity_in bitmap (length integers)) i ≡ is_valid_at v i = rw long same in
    sym (are v of) ∙ items_marked v integers bitmap covered alike
