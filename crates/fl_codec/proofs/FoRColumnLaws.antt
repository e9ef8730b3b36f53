-- Columns of frames of reference.
use Rattle.std.proofs.Common.{◌≡◌, ℕ, ℤ, pos, ◌+◌, ◌/◌, ◌<◌, ◌+ℤ◌, Bool, true, false, cond, List, [], ◌∷◌, length, map, get_or, Some, None, option_map, Result, Ok, IsTrue, refl, ap, sym, ◌∙◌, arith}
use Rattle.std.specs.Prelude.{if◌then◌else◌}
use Rattle.std.proofs.lemmas.List.FromFn.{fill_by_all}
use Rattle.fl_types.specs.declared.dtype.PType.{PType}
use Rattle.fl_types.specs.declared.error.FastLanesError.{FastLanesError}
use Rattle.fl_types.specs.declared.validity.Validity.{Validity}
use Rattle.fl_types.specs.declared.validity.Validity.TheVariants as valid
use Rattle.fl_types.specs.Bits.{tabulate}
use Rattle.fl_types.specs.Integers.{wrap}
use Rattle.fl_types.specs.Refusals.{Answers}
use Rattle.fl_types.specs.Validities.{covers, is_valid_at, items_of, masked}
use Rattle.fl_types.proofs.RefusalLaws.{Answers_view}
use Rattle.fl_column.specs.Columns.{PrimitiveParts, column_of_primitive}
use Rattle.fl_column.proofs.ItemLaws.{get_or-items_of, length-items_of}
use Rattle.fl_codec.specs.FoRColumns.{chunked_for, chunked_sums, global_for, plus_reference}
use Rattle.fl_codec.specs.Parts.{under_validity_of}
use Rattle.fl_codec.proofs.ReferenceLaws.{get_or-table, length-table}

masked-map : {A B : Type 0} (f : A → B) (bits : List Bool) (xs : List A) → masked bits (map f xs) ≡ map (option_map f) (masked bits xs)
masked-map f [] xs = refl
masked-map f (b ∷ bits) [] = refl
masked-map f (true ∷ bits) (x ∷ xs) = ap (λ ys. Some (f x) ∷ ys) (masked-map f bits xs)
masked-map f (false ∷ bits) (x ∷ xs) = ap (λ ys. None ∷ ys) (masked-map f bits xs)

some-map : {A B : Type 0} (f : A → B) (xs : List A) → map (λ y. Some y) (map f xs) ≡ map (option_map f) (map (λ x. Some x) xs)
some-map f [] = refl
some-map f (x ∷ xs) = ap (λ ys. Some (f x) ∷ ys) (some-map f xs)

none-map : {A B : Type 0} (f : A → B) (xs : List A) → items_of valid.AllInvalid (map f xs) ≡ map (option_map f) (items_of valid.AllInvalid xs)
none-map f [] = refl
none-map f (x ∷ xs) = ap (λ ys. None ∷ ys) (none-map f xs)

-- a map of the slots maps the items that are no nulls
pub items_of-map : {A B : Type 0} (f : A → B) (v : Validity) (xs : List A) → items_of v (map f xs) ≡ map (option_map f) (items_of v xs)
items_of-map f valid.NonNullable xs = some-map f xs
items_of-map f valid.AllValid xs = some-map f xs
items_of-map f valid.AllInvalid xs = none-map f xs
items_of-map f (valid.Array bits) xs = masked-map f bits xs

-- the column of a global frame
pub global_column : (p : PrimitiveParts) (ptype : PType) (reference : ℤ) (slots : List ℤ) (result : Result PrimitiveParts FastLanesError) → p.ptype ≡ ptype → slots ≡ map (λ z. wrap ptype (z +ℤ reference)) p.slots
    → Answers (λ a. a) result (Ok (under_validity_of p ptype slots)) → Answers column_of_primitive result (Ok (global_for reference (column_of_primitive p)))
global_column p ptype reference slots result same is made =
    Answers_view column_of_primitive result (under_validity_of p ptype slots) (global_for reference (column_of_primitive p))
    (rw (is, ← same, items_of-map (λ z. wrap p.ptype (z +ℤ reference)) p.validity p.slots) refl) made

plus_item : (ptype : PType) (reference slot : ℤ) (here : Bool) → cond here (Some (wrap ptype (slot +ℤ reference))) None ≡ plus_reference ptype reference (cond here (Some slot) None)
plus_item ptype reference slot true = refl
plus_item ptype reference slot false = refl

-- the items of the sums of chunks
pub items_of-sums : (ptype : PType) (references : List ℤ) (offset : ℕ) (v : Validity) (slots : List ℤ) → IsTrue (covers v (length slots))
    → items_of v (chunked_sums ptype references offset slots) ≡ tabulate (λ i. plus_reference ptype (get_or references ((offset + i) / 1024) (pos 0)) (get_or (items_of v slots) i None)) (length (items_of v slots))
items_of-sums ptype references offset v slots covered =
    let sums = chunked_sums ptype references offset slots in
    let sum : ℕ → ℤ = λ i. wrap ptype (get_or slots i (pos 0) +ℤ get_or references ((offset + i) / 1024) (pos 0)) in
    let long : length sums ≡ length slots = length-table sum (length slots) in
    let covered_too : IsTrue (covers v (length sums)) = rw long covered in
    let each = length-items_of v slots covered in
    fill_by_all (λ i. plus_reference ptype (get_or references ((offset + i) / 1024) (pos 0)) (get_or (items_of v slots) i None)) (items_of v sums) (length (items_of v slots)) None
    (length-items_of v sums covered_too ∙ (long ∙ sym each))
    (λ i h.
    let within : i < length slots = omega arith in
    let reference = get_or references ((offset + i) / 1024) (pos 0) in
    get_or-items_of v sums i (pos 0) covered_too (rw long within) ∙ (ap (λ z. cond (is_valid_at v i) (Some z) None) (get_or-table sum (length slots) i (pos 0) within)
    ∙ (plus_item ptype reference (get_or slots i (pos 0)) (is_valid_at v i) ∙ ap (plus_reference ptype reference) (sym (get_or-items_of v slots i (pos 0) covered within)))))

-- the column of a chunked frame
pub chunked_column : (p : PrimitiveParts) (ptype : PType) (references : List ℤ) (offset : ℕ) (slots : List ℤ) (result : Result PrimitiveParts FastLanesError) → IsTrue (covers p.validity (length p.slots)) → p.ptype ≡ ptype → slots ≡ chunked_sums ptype references offset p.slots
    → Answers (λ a. a) result (Ok (under_validity_of p ptype slots)) → Answers column_of_primitive result (Ok (chunked_for references offset (column_of_primitive p)))
chunked_column p ptype references offset slots result covered same is made =
    Answers_view column_of_primitive result (under_validity_of p ptype slots) (chunked_for references offset (column_of_primitive p))
    (rw (is, ← same, items_of-sums p.ptype references offset p.validity p.slots covered) refl) made

-- ---- slots that a table gives
-- the items of a table under a validity
pub items_of-table : {A : Type 0} (f : ℕ → A) (v : Validity) (n : ℕ) → IsTrue (covers v n) → items_of v (tabulate f n) ≡ tabulate (λ i. if is_valid_at v i then Some (f i) else None) n
items_of-table f v n covered =
    let long : length (tabulate f n) ≡ n = length-table f n in
    let covered_too : IsTrue (covers v (length (tabulate f n))) = rw long covered in
    fill_by_all (λ i. if is_valid_at v i then Some (f i) else None) (items_of v (tabulate f n)) n None (length-items_of v (tabulate f n) covered_too ∙ long)
    (λ i h. get_or-items_of v (tabulate f n) i (f 0) covered_too (rw long h) ∙ ap (λ z. cond (is_valid_at v i) (Some z) None) (get_or-table f n i (f 0) h))
