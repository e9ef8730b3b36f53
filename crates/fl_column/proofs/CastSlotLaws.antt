-- Slots that are cast, and the items that they are under a validity.
use Rattle.std.proofs.Common.{◌≡◌, ℕ, ℤ, pos, ◌+◌, ◌<◌, ◌≤◌, ◌&&◌, ◌||◌, Bool, true, false, List, [], ◌∷◌, ◌++◌, length, map, take, get_or, Option, Some, None, Ok, option_map, is_some, unwrap_or, IsTrue, if◌then◌else◌, refl, ap, ◌∙◌, sym, arith}
use Rattle.std.specs.Prelude.{Result}
use Rattle.std.specs.List.{list_all}
use Rattle.std.proofs.lemmas.Bool.Decides.{Decides-eqb}
use Rattle.std.proofs.lemmas.List.{length-map, take_all}
use Rattle.fl_types.specs.Integers.{fits}
use Rattle.fl_types.specs.Refusals.{Answers}
use Rattle.fl_types.specs.Types.{can_be_null}
use Rattle.fl_types.specs.Validities.{items_of, covers, masked, nullability_of}
use Rattle.fl_types.specs.declared.dtype.PType.{PType}
use Rattle.fl_types.specs.declared.dtype.Nullability.{Nullability}
use Rattle.fl_types.specs.declared.dtype.Nullability.TheVariants.{NonNullable, Nullable}
use Rattle.fl_types.specs.declared.error.FastLanesError.{FastLanesError}
use Rattle.fl_types.specs.declared.validity.Validity.{Validity}
use Rattle.fl_types.specs.declared.validity.Validity.TheVariants as valid
use Rattle.fl_column.specs.Casts.{cast_slot, cast_validity}
use Rattle.fl_column.specs.Columns.{PrimitiveParts, column_of_primitive, option_all}
use Rattle.fl_column.specs.Operations.{cast_items}
use Rattle.fl_column.specs.Selections.{any_null}
use Rattle.fl_column.proofs.CastLaws.{any_null_is, no_null}
use Rattle.fl_column.proofs.GatherLaws.{read_more}
use Rattle.fl_column.proofs.ItemLaws.{length-items_of, map_read, no_nulls_masked}
use Rattle.fl_column.proofs.ListLaws.{all_fails, all_more, and_first, and_second, list_all-append}

-- a value that was converted or, where the type doesn't have it, 0
slot_cast : {B : Type 0} (value : B → ℤ) (b : Bool) (z : ℤ) (cast : Option B) (zero : B) → option_map value cast ≡ (if b then Some z else None) → value zero ≡ pos 0 → (value (unwrap_or cast zero) ≡ (if b then z else pos 0)) × (is_some cast ≡ b)
slot_cast value true z (Some y) zero e none = (cc, refl)
slot_cast value true z None zero e none = cc
slot_cast value false z (Some y) zero e none = cc
slot_cast value false z None zero e none = (none, refl)

and_end : (b : Bool) → (b && true) ≡ b
and_end true = refl
and_end false = refl

-- one more slot that is cast
pub slots_more : {A B : Type 0} (value : B → ℤ) (f : A → ℤ) (t : PType) (old new : List B) (cast : Option B) (zero : B) (z : ℤ) (fit : Bool) (xs : List A) (i : ℕ) (x : A) → i < length xs → x ≡ get_or xs i x → z ≡ f x → value zero ≡ pos 0
    → option_map value cast ≡ (if fits t z then Some z else None) → new ≡ old ++ unwrap_or cast zero ∷ [] → map value old ≡ map (cast_slot t) (map f (take i xs)) → fit ≡ list_all (fits t) (map f (take i xs))
    → (map value new ≡ map (cast_slot t) (map f (take (i + 1) xs))) × ((fit && is_some cast) ≡ list_all (fits t) (map f (take (i + 1) xs)))
slots_more value f t old new cast zero z fit xs i x within is read none converted added before fitted =
    let one = slot_cast value (fits t z) z cast zero converted none in
    let here : value (unwrap_or cast zero) ≡ cast_slot t (f x) = one.0 ∙ ap (cast_slot t) read in
    let more : list_all (fits t) (map f (take (i + 1) xs)) ≡ (list_all (fits t) (map f (take i xs)) && fits t (f x)) =
    ap (list_all (fits t)) (map_read f xs i x within is) ∙ (list_all-append (fits t) (map f (take i xs)) (f x ∷ []) ∙ ap (λ b. list_all (fits t) (map f (take i xs)) && b) (and_end (fits t (f x)))) in
    let fitted_here : is_some cast ≡ fits t (f x) = one.1 ∙ ap (fits t) read in
    (read_more value (cast_slot t) f old new (unwrap_or cast zero) xs i x added before here is within, rw (fitted, fitted_here) (sym more))

-- one more item that fits
pub items_more : {A : Type 0} (f : A → ℤ) (p : Option ℤ → Bool) (xs : List A) (v : Validity) (i : ℕ) (item : Option ℤ) → IsTrue (covers v (length xs)) → i < length xs → list_all p (take i (items_of v (map f xs))) ≡ true → true ≡ p item → item ≡ get_or (items_of v (map f xs)) i None
    → list_all p (take (i + 1) (items_of v (map f xs))) ≡ true
items_more f p xs v i item covered within before fit read =
    let long : length (items_of v (map f xs)) ≡ length xs = length-items_of v (map f xs) (rw length-map covered) ∙ length-map xs f in
    all_more p (items_of v (map f xs)) i None (omega arith) before (rw (← read) (sym fit))

-- an item that doesn't fit
pub items_fail : {A : Type 0} (f : A → ℤ) (p : Option ℤ → Bool) (xs : List A) (v : Validity) (i : ℕ) (item : Option ℤ) → IsTrue (covers v (length xs)) → i < length xs → false ≡ p item → item ≡ get_or (items_of v (map f xs)) i None → false ≡ list_all p (items_of v (map f xs))
items_fail f p xs v i item covered within unfit read =
    let long : length (items_of v (map f xs)) ≡ length xs = length-items_of v (map f xs) (rw length-map covered) ∙ length-map xs f in
    sym (all_fails p (items_of v (map f xs)) i None (omega arith) (rw (← read) (sym unfit)))

-- all items fit
pub items_end : {A : Type 0} (f : A → ℤ) (p : Option ℤ → Bool) (xs : List A) (v : Validity) (i : ℕ) → IsTrue (covers v (length xs)) → length xs ≤ i → list_all p (take i (items_of v (map f xs))) ≡ true → true ≡ list_all p (items_of v (map f xs))
items_end f p xs v i covered full before =
    let long : length (items_of v (map f xs)) ≡ length xs = length-items_of v (map f xs) (rw length-map covered) ∙ length-map xs f in
    let all = take_all i (items_of v (map f xs)) (omega arith) in
    sym (rw all at before)

fits_slot : (t : PType) (z : ℤ) → fits t z ≡ true → cast_slot t z ≡ z
fits_slot t z fit = rw fit refl

full_cast : (t : PType) (zs : List ℤ) → list_all (option_all (fits t)) (map (λ z. Some z) zs) ≡ true → map (λ z. Some z) (map (cast_slot t) zs) ≡ map (λ z. Some z) zs
full_cast t [] fit = refl
full_cast t (z ∷ zs) fit =
    let first = fits_slot t z (and_first (fits t z) (list_all (option_all (fits t)) (map (λ z. Some z) zs)) fit) in
    let rest = full_cast t zs (and_second (fits t z) (list_all (option_all (fits t)) (map (λ z. Some z) zs)) fit) in
    (λ i. Some (first i) ∷ rest i)

null_cast : (t : PType) (zs : List ℤ) → items_of valid.AllInvalid (map (cast_slot t) zs) ≡ items_of valid.AllInvalid zs
null_cast t [] = refl
null_cast t (z ∷ zs) = ap (λ xs. None ∷ xs) (null_cast t zs)

masked_cast : (t : PType) (bits : List Bool) (zs : List ℤ) → list_all (option_all (fits t)) (masked bits zs) ≡ true → masked bits (map (cast_slot t) zs) ≡ masked bits zs
masked_cast t [] zs fit = refl
masked_cast t (b ∷ bits) [] fit = refl
masked_cast t (true ∷ bits) (z ∷ zs) fit =
    let first = fits_slot t z (and_first (fits t z) (list_all (option_all (fits t)) (masked bits zs)) fit) in
    let rest = masked_cast t bits zs (and_second (fits t z) (list_all (option_all (fits t)) (masked bits zs)) fit) in
    (λ i. Some (first i) ∷ rest i)
masked_cast t (false ∷ bits) (z ∷ zs) fit = ap (λ xs. None ∷ xs) (masked_cast t bits zs fit)

-- where the type has all items, the slots that are cast are the same items
items_cast : (t : PType) (v : Validity) (zs : List ℤ) → list_all (option_all (fits t)) (items_of v zs) ≡ true → items_of v (map (cast_slot t) zs) ≡ items_of v zs
items_cast t valid.NonNullable zs fit = full_cast t zs fit
items_cast t valid.AllValid zs fit = full_cast t zs fit
items_cast t valid.AllInvalid zs fit = null_cast t zs
items_cast t (valid.Array bits) zs fit = masked_cast t bits zs fit

no_nulls_among : {A : Type 0} (xs : List A) → list_all is_some (items_of valid.AllInvalid xs) ≡ true → items_of valid.AllInvalid xs ≡ map (λ x. Some x) xs
no_nulls_among [] all = refl
no_nulls_among (x ∷ xs) all = cc

-- without a null each slot is an item
no_nulls_here : {A : Type 0} (v : Validity) (xs : List A) → IsTrue (covers v (length xs)) → list_all is_some (items_of v xs) ≡ true → items_of v xs ≡ map (λ x. Some x) xs
no_nulls_here valid.NonNullable xs covered all = refl
no_nulls_here valid.AllValid xs covered all = refl
no_nulls_here valid.AllInvalid xs covered all = no_nulls_among xs all
no_nulls_here (valid.Array bits) xs covered all = no_nulls_masked bits xs ((Decides-eqb (length bits) (length xs)).0 covered) all

nulls_by : {A : Type 0} (b : Bool) (v : Validity) (xs : List A) → (b ≡ false → items_of v xs ≡ map (λ x. Some x) xs) → items_of (if b then v else valid.AllValid) xs ≡ items_of v xs
nulls_by true v xs none = refl
nulls_by false v xs none = sym (none refl)

-- a validity without a null is left out
pub nulls_left : {A : Type 0} (v : Validity) (len : ℕ) (xs : List A) → len ≡ length xs → IsTrue (covers v (length xs)) → items_of (if any_null v len then v else valid.AllValid) xs ≡ items_of v xs
nulls_left v len xs long covered = nulls_by (any_null v len) v xs (λ none. no_nulls_here v xs covered (no_null (items_of v xs) (sym (any_null_is v xs len long covered) ∙ none)))

-- the items under the validity of a cast
same_items : {A : Type 0} (n : Nullability) (v : Validity) (len : ℕ) (xs : List A) → len ≡ length xs → IsTrue (covers v (length xs)) → IsTrue (can_be_null n || list_all is_some (items_of v xs)) → items_of (cast_validity n len v) xs ≡ items_of v xs
same_items NonNullable v len xs long covered nulls = sym (no_nulls_here v xs covered nulls)
same_items Nullable v len xs long covered nulls = nulls_left v len xs long covered

-- nulls may stand under it as before
pub nullable_by : (b : Bool) (v : Validity) → nullability_of v ≡ Nullable → nullability_of (if b then v else valid.AllValid) ≡ Nullable
nullable_by true v e = e
nullable_by false v e = refl

same_nullability : (n : Nullability) (v : Validity) (len : ℕ) → nullability_of (cast_validity n len v) ≡ n
same_nullability NonNullable v len = refl
same_nullability Nullable valid.NonNullable len = refl
same_nullability Nullable valid.AllValid len = refl
same_nullability Nullable valid.AllInvalid len = nullable_by (any_null valid.AllInvalid len) valid.AllInvalid refl
same_nullability Nullable (valid.Array bits) len = nullable_by (any_null (valid.Array bits) len) (valid.Array bits) refl

-- the array of the slots that were cast
pub cast_made : {A B : Type 0} (value : B → ℤ) (f : A → ℤ) (t : PType) (n : Nullability) (xs : List A) (zs : List ℤ) (ys : List B) (v w : Validity) (array : PrimitiveParts) → map f xs ≡ zs → IsTrue (covers v (length zs)) → IsTrue (can_be_null n || list_all is_some (items_of v zs))
    → list_all (option_all (fits t)) (items_of v zs) ≡ true → map value ys ≡ map (cast_slot t) (map f xs) → ◌≡◌ {A = Result Validity FastLanesError} (Ok (cast_validity n (length xs) v)) (Ok w) → array ≡ record { ptype = t; slots = map value ys; validity = w }
    → Answers column_of_primitive (Ok array) (cast_items t n (items_of v zs))
cast_made value f t n xs zs ys v w array slots covered nulls fit made is parts =
    let same : w ≡ cast_validity n (length xs) v = cc in
    let cast : map value ys ≡ map (cast_slot t) zs = rw slots at made in
    let long : length xs ≡ length (map (cast_slot t) zs) = sym (length-map xs f) ∙ (ap length slots ∙ sym (length-map zs (cast_slot t))) in
    let items : items_of v (map (cast_slot t) zs) ≡ items_of v zs = items_cast t v zs fit in
    let here : items_of (cast_validity n (length xs) v) (map (cast_slot t) zs) ≡ items_of v zs = same_items n v (length xs) (map (cast_slot t) zs) long (rw length-map covered) (rw items nulls) ∙ items in
    rw (parts, same, cast, here, same_nullability n v (length xs), fit) refl
