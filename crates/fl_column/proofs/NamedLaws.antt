-- The items that indices name where no item and no index is null.
use Rattle.std.proofs.Common.{◌≡◌, ◌&&◌, ℕ, ℤ, ◌<◌, pos, negsuc, Bool, true, false, List, [], ◌∷◌, length, map, get_or, Some, None, Ok, Err, IsErrAnd, if◌then◌else◌, int_le, nat_lt, unsigned_abs, refl, ap, sym, ◌∙◌}
use Rattle.std.specs.Prelude.{Result}
use Rattle.std.specs.List.{list_all}
use Rattle.std.proofs.lemmas.List.{length-map, get_or-map}
use Rattle.std.proofs.lemmas.Bool.Decides.{Decides-ltb}
use Rattle.fl_types.specs.Refusals.{Answers, Refuses}
use Rattle.fl_types.specs.Types.{either_nullable}
use Rattle.fl_types.specs.Validities.{full_validity, items_of, nullability_of}
use Rattle.fl_types.specs.declared.dtype.PType.{PType}
use Rattle.fl_types.specs.declared.dtype.DType.TheVariants.{Primitive}
use Rattle.fl_types.specs.declared.dtype.Nullability.{Nullability}
use Rattle.fl_types.specs.declared.dtype.Nullability.TheVariants.{NonNullable, Nullable}
use Rattle.fl_types.specs.declared.error.FastLanesError.{FastLanesError}
use Rattle.fl_types.specs.declared.error.FastLanesError.TheVariants.{IndexOutOfBounds}
use Rattle.fl_types.specs.declared.validity.Validity.{Validity}
use Rattle.fl_types.specs.declared.validity.Validity.TheVariants as valid
use Rattle.fl_types.proofs.RefusalLaws.{Refuses_map}
use Rattle.fl_column.specs.Columns.{PrimitiveParts, column_of_primitive}
use Rattle.fl_column.specs.Operations.{is_in_range, item_named, take_column}
use Rattle.fl_column.specs.Selections.{is_full, slot_named, slots_named}
use Rattle.fl_column.proofs.ListLaws.{all_fails, and_second}

no_place : {A : Type 0} (b : Bool) (x : A) → None ≡ (if b then Some x else None) → b ≡ false
no_place true x e = cc
no_place false x e = refl

-- an index that names no item
pub named_fails : {A B : Type 0} (f : A → ℤ) (h : B → ℤ) (xs : List A) (ys : List B) (i : ℕ) (y : B) → i < length ys → y ≡ get_or ys i y → None ≡ (if is_in_range (length xs) (Some (h y)) then Some (unsigned_abs (h y)) else None) → slots_named (map f xs) (map h ys) ≡ Err IndexOutOfBounds
named_fails f h xs ys i y within is none =
    let out : is_in_range (length (map f xs)) (Some (h y)) ≡ false = rw length-map (no_place (is_in_range (length xs) (Some (h y))) (unsigned_abs (h y)) none) in
    let here : get_or (map h ys) i (h y) ≡ h y = get_or-map h ys i y (h y) within ∙ ap h (sym is) in
    let inside : i < length (map h ys) = rw length-map within in
    let some : list_all (λ index. is_in_range (length (map f xs)) (Some index)) (map h ys) ≡ false = all_fails (λ index. is_in_range (length (map f xs)) (Some index)) (map h ys) i (h y) inside (rw here out) in
    rw some refl

-- without a null each slot is an item
pub full_items : {A : Type 0} (v : Validity) (xs : List A) → is_full v ≡ true → items_of v xs ≡ map (λ x. Some x) xs
full_items valid.NonNullable xs full = refl
full_items valid.AllValid xs full = refl
full_items valid.AllInvalid xs full = cc
full_items (valid.Array bits) xs full = cc

-- indices that are not null lie in range where their integers do
pub in_range_all : (n : ℕ) (ys : List ℤ) → list_all (is_in_range n) (map (λ z. Some z) ys) ≡ list_all (λ z. is_in_range n (Some z)) ys
in_range_all n [] = refl
in_range_all n (y ∷ ys) = ap (λ b. is_in_range n (Some y) && b) (in_range_all n ys)

-- the place of an index in range
pub in_place : (n : ℕ) (z : ℤ) → is_in_range n (Some z) ≡ true → unsigned_abs z < n
in_place n (pos k) h = (Decides-ltb k n).0 (and_second (int_le (pos 0) (pos k)) (nat_lt k n) h)
in_place n (negsuc k) h = cc

all_first : (b c : Bool) → (b && c) ≡ true → b ≡ true
all_first true c e = refl
all_first false c e = cc

named_each : (xs ys : List ℤ) → list_all (λ z. is_in_range (length xs) (Some z)) ys ≡ true → map (item_named (map (λ z. Some z) xs)) (map (λ z. Some z) ys) ≡ map (λ z. Some z) (map (slot_named xs) ys)
named_each xs [] range = refl
named_each xs (y ∷ ys) range =
    let first : is_in_range (length xs) (Some y) ≡ true = all_first (is_in_range (length xs) (Some y)) (list_all (λ z. is_in_range (length xs) (Some z)) ys) range in
    let rest = named_each xs ys (and_second (is_in_range (length xs) (Some y)) (list_all (λ z. is_in_range (length xs) (Some z)) ys) range) in
    let here : get_or (map (λ z. Some z) xs) (unsigned_abs y) None ≡ Some (slot_named xs y) = get_or-map (λ z. Some z) xs (unsigned_abs y) (pos 0) None (in_place (length xs) y first) in
    (λ i. here i ∷ rest i)

-- which answer a test gives
pub if_ok : {A E : Type 0} (b : Bool) (x y : A) (e : E) → (if b then Ok x else Err e) ≡ Ok y → (b ≡ true) × (x ≡ y)
if_ok true x y e h = (refl, cc)
if_ok false x y e h = cc

pub if_err : {A E : Type 0} (b : Bool) (x : A) (e f : E) → (if b then Ok x else Err e) ≡ Err f → (b ≡ false) × (e ≡ f)
if_err true x e f h = cc
if_err false x e f h = (refl, cc)

full_column : (t : PType) (n : Nullability) (zs : List ℤ) → column_of_primitive (record { ptype = t; slots = zs; validity = full_validity n }) ≡ record { dtype = Primitive t n; items = map (λ z. Some z) zs }
full_column t NonNullable zs = refl
full_column t Nullable zs = refl

-- the array of the slots that were named
pub named_column : (a b r : PrimitiveParts) (zs : List ℤ) (n : Nullability) → is_full a.validity ≡ true → is_full b.validity ≡ true → slots_named a.slots b.slots ≡ Ok zs → n ≡ either_nullable (nullability_of a.validity) (nullability_of b.validity) → r ≡ record { ptype = a.ptype; slots = zs; validity = full_validity n }
    → take_column (column_of_primitive b) (column_of_primitive a) ≡ Ok (column_of_primitive r)
named_column a b r zs n full_a full_b named nullable is =
    let items_a : items_of a.validity a.slots ≡ map (λ z. Some z) a.slots = full_items a.validity a.slots full_a in
    let items_b : items_of b.validity b.slots ≡ map (λ z. Some z) b.slots = full_items b.validity b.slots full_b in
    let ok = if_ok (list_all (λ index. is_in_range (length a.slots) (Some index)) b.slots) (map (slot_named a.slots) b.slots) zs IndexOutOfBounds named in
    let range : list_all (is_in_range (length (items_of a.validity a.slots))) (items_of b.validity b.slots) ≡ true = rw (items_a, items_b, length-map) (in_range_all (length a.slots) b.slots ∙ ok.0) in
    let items : map (item_named (items_of a.validity a.slots)) (items_of b.validity b.slots) ≡ map (λ z. Some z) zs = rw (items_a, items_b, ← ok.1) (named_each a.slots b.slots ok.0) in
    rw (range, items, is, full_column a.ptype n zs, nullable) refl

-- an index that names no item refuses the take
pub unnamed_column : (a b : PrimitiveParts) (e : FastLanesError) → is_full a.validity ≡ true → is_full b.validity ≡ true → slots_named a.slots b.slots ≡ Err e → take_column (column_of_primitive b) (column_of_primitive a) ≡ Err e
unnamed_column a b e full_a full_b named =
    let items_a : items_of a.validity a.slots ≡ map (λ z. Some z) a.slots = full_items a.validity a.slots full_a in
    let items_b : items_of b.validity b.slots ≡ map (λ z. Some z) b.slots = full_items b.validity b.slots full_b in
    let err = if_err (list_all (λ index. is_in_range (length a.slots) (Some index)) b.slots) (map (slot_named a.slots) b.slots) IndexOutOfBounds e named in
    let range : list_all (is_in_range (length (items_of a.validity a.slots))) (items_of b.validity b.slots) ≡ false = rw (items_a, items_b, length-map) (in_range_all (length a.slots) b.slots ∙ err.0) in
    rw range (ap (λ f. Err f) err.1)

-- an answer that passes on a refusal
pub passed_on : {X Y Z : Type 0} (view : X → Z) (r : Result X FastLanesError) (m : Result Y FastLanesError) (n : Result Z FastLanesError) (e : FastLanesError) → IsErrAnd r (λ f. f ≡ e) → Refuses e m → (m ≡ Err e → n ≡ Err e) → Answers view r n
passed_on view (Ok x) m n e h refused so = absurd h
passed_on view (Err f) m n e h refused so = rw h (Refuses_map e m n so refused)
