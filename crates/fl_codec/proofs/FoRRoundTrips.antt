-- Frames of reference give their columns back.
use Rattle.std.proofs.Common.{◌≡◌, ℕ, ℤ, pos, ◌+◌, ◌/◌, ◌^◌, ◌<◌, ◌+ℤ◌, ◌-ℤ◌, Bool, true, false, cond, List, [], ◌∷◌, length, map, replicate, get_or, Option, Some, None, Ok, IsTrue, subst, refl, ap, sym, ◌∙◌, arith}
use Rattle.std.specs.List.{list_all}
use Rattle.std.specs.Prelude.{is_none, nat_lt, ◌&&◌, zero, suc, if◌then◌else◌}
use Rattle.std.proofs.lemmas.Bool.Decides.{Decides-int_eq}
use Rattle.std.proofs.lemmas.Int.{ints}
use Rattle.std.proofs.lemmas.List.{get_or-map, length-map}
use Rattle.std.proofs.lemmas.List.FromFn.{fill_by_all}
use Rattle.fl_types.specs.declared.dtype.PType.{PType}
use Rattle.fl_types.specs.declared.dtype.Nullability.TheVariants.{Nullable}
use Rattle.fl_types.specs.declared.dtype.DType.TheVariants.{Primitive}
use Rattle.fl_types.specs.declared.validity.Validity.{Validity}
use Rattle.fl_types.specs.Bits.{tabulate}
use Rattle.fl_types.specs.Integers.{bits_of_type, fits, pattern_of, wrap}
use Rattle.fl_types.specs.Validities.{covers, is_valid_at, items_of, nullability_of}
use Rattle.fl_types.proofs.Patterns.{pattern_read}
use Rattle.fl_column.specs.Columns.{PrimitiveParts, column_of_primitive}
use Rattle.fl_column.proofs.ItemLaws.{get_or-items_of, length-items_of, nullable_by_item}
use Rattle.fl_column.proofs.ListLaws.{all_at, and_first, and_second}
use Rattle.std.proofs.lemmas.Bool.{ltb-true}
use Rattle.fl_types.proofs.BitLists.{same_tables}
use Rattle.fl_codec.specs.FoRColumns.{chunk_references, chunked_slots, common_reference, global_for, least_by, minus_reference, plus_reference, reading}
use Rattle.fl_codec.specs.FoRValues.{column_of_for, column_of_one_reference}
use Rattle.fl_codec.specs.Parts.{FoRParts, OneReference, encode_chunked_by, encode_global_by, items_of_primitive, less_chunk_leasts, less_common, subtract_min, subtract_reference, less_references}
use Rattle.fl_codec.specs.declared.for_.ItemOrder.{ItemOrder}
use Rattle.fl_codec.proofs.Congruence.{IsPattern, IsPattern-add, pattern_is, pattern_small, read_as-IsPattern}
use Rattle.fl_codec.proofs.ReferenceLaws.{get_or-table, length-table}

-- ---- sums that wrap
wrapped_pattern : (ptype : PType) (x : ℤ) → IsPattern (2 ^ bits_of_type ptype) (wrap ptype x) (pattern_of ptype x)
wrapped_pattern ptype x =
    let p = pattern_of ptype x in
    let read = read_as-IsPattern ptype x p (pattern_is ptype x) in
    let same : pattern_of ptype (wrap ptype x) ≡ p = ap (pattern_of ptype) (sym read) ∙ pattern_read ptype p (pattern_small ptype x) in
    subst (IsPattern (2 ^ bits_of_type ptype) (wrap ptype x)) same (pattern_is ptype (wrap ptype x))

-- it is one whether a part of a sum was wrapped before
pub wrap-wrap_left : (ptype : PType) (x y : ℤ) → wrap ptype (wrap ptype x +ℤ y) ≡ wrap ptype (x +ℤ y)
wrap-wrap_left ptype x y =
    let N : ℕ = 2 ^ bits_of_type ptype in
    let p = pattern_of ptype x in
    let q = pattern_of ptype y in
    sym (read_as-IsPattern ptype (wrap ptype x +ℤ y) (p + q) (IsPattern-add N (wrap ptype x) y p q (wrapped_pattern ptype x) (pattern_is ptype y)))
    ∙ read_as-IsPattern ptype (x +ℤ y) (p + q) (IsPattern-add N x y p q (pattern_is ptype x) (pattern_is ptype y))

add_swap : (x y : ℤ) → x +ℤ y ≡ y +ℤ x
add_swap x y = omega (arith, ints)

pub wrap-wrap_right : (ptype : PType) (x y : ℤ) → wrap ptype (x +ℤ wrap ptype y) ≡ wrap ptype (x +ℤ y)
wrap-wrap_right ptype x y = ap (wrap ptype) (add_swap x (wrap ptype y)) ∙ (wrap-wrap_left ptype y x ∙ ap (wrap ptype) (add_swap y x))

sub_add : (z r : ℤ) → z -ℤ r +ℤ r ≡ z
sub_add z r = omega (arith, ints)

pub fitting : (ptype : PType) (z : ℤ) → fits ptype z ≡ true → wrap ptype z ≡ z
fitting ptype z fit = (Decides-int_eq (wrap ptype z) z).0 fit

-- an integer less a reference, plus the reference
back_again : (ptype : PType) (r z : ℤ) → fits ptype z ≡ true → wrap ptype (wrap ptype (z -ℤ r) +ℤ r) ≡ z
back_again ptype r z fit = wrap-wrap_left ptype (z -ℤ r) r ∙ (ap (wrap ptype) (sub_add z r) ∙ fitting ptype z fit)

-- ---- one item
item_back : (ptype : PType) (r slot : ℤ) (here : Bool) → fits ptype slot ≡ true
    → plus_reference ptype r (cond here (Some (minus_reference ptype r (cond here (Some slot) None))) None) ≡ cond here (Some slot) None
item_back ptype r slot true fit = ap (λ z. Some z) (back_again ptype r slot fit)
item_back ptype r slot false fit = refl

-- the items of slots that are each less a reference, each plus it
pub slots_back : (ptype : PType) (reference : ℕ → ℤ) (v : Validity) (slots : List ℤ) → IsTrue (covers v (length slots)) → list_all (fits ptype) slots ≡ true
    → tabulate (λ i. plus_reference ptype (reference i) (get_or (items_of v (tabulate (λ k. minus_reference ptype (reference k) (get_or (items_of v slots) k None)) (length slots))) i None)) (length slots) ≡ items_of v slots
slots_back ptype reference v slots covered fit =
    let less : ℕ → ℤ = λ k. minus_reference ptype (reference k) (get_or (items_of v slots) k None) in
    let long : length (tabulate less (length slots)) ≡ length slots = length-table less (length slots) in
    let covered_too : IsTrue (covers v (length (tabulate less (length slots)))) = rw long covered in
    sym (fill_by_all (λ i. plus_reference ptype (reference i) (get_or (items_of v (tabulate less (length slots))) i None)) (items_of v slots) (length slots) None (length-items_of v slots covered)
    (λ i h.
    let slot = get_or slots i (pos 0) in
    let item : get_or (items_of v slots) i None ≡ cond (is_valid_at v i) (Some slot) None = get_or-items_of v slots i (pos 0) covered h in
    let stored : get_or (items_of v (tabulate less (length slots))) i None ≡ cond (is_valid_at v i) (Some (minus_reference ptype (reference i) (cond (is_valid_at v i) (Some slot) None))) None =
    get_or-items_of v (tabulate less (length slots)) i (pos 0) covered_too (rw long h) ∙ ap (λ z. cond (is_valid_at v i) (Some z) None) (get_or-table less (length slots) i (pos 0) h ∙ ap (minus_reference ptype (reference i)) item) in
    item ∙ sym (ap (plus_reference ptype (reference i)) stored ∙ item_back ptype (reference i) slot (is_valid_at v i) (all_at (fits ptype) slots i (pos 0) fit h))))

map_table : {A B : Type 0} (f : A → B) (xs : List A) (n : ℕ) (d : A) → length xs ≡ n → map f xs ≡ tabulate (λ i. f (get_or xs i d)) n
map_table f xs n d long = fill_by_all (λ i. f (get_or xs i d)) (map f xs) n (f d) (length-map xs f ∙ long) (λ i h. get_or-map f xs i d (f d) (rw long h))

-- ---- one reference
pub less_reference_back : (p : PrimitiveParts) (r : ℤ) → IsTrue (covers p.validity (length p.slots)) → list_all (fits p.ptype) p.slots ≡ true → column_of_one_reference (subtract_reference p r) ≡ column_of_primitive p
less_reference_back p r covered fit =
    let each = length-items_of p.validity p.slots covered in
    let slots : map (minus_reference p.ptype r) (items_of p.validity p.slots) ≡ tabulate (λ k. minus_reference p.ptype r (get_or (items_of p.validity p.slots) k None)) (length p.slots) = map_table (minus_reference p.ptype r) (items_of p.validity p.slots) (length p.slots) None each in
    let less = tabulate (λ k. minus_reference p.ptype r (get_or (items_of p.validity p.slots) k None)) (length p.slots) in
    let long : length less ≡ length p.slots = length-table (λ k. minus_reference p.ptype r (get_or (items_of p.validity p.slots) k None)) (length p.slots) in
    let covered_too : IsTrue (covers p.validity (length less)) = rw long covered in
    let items : map (plus_reference p.ptype r) (items_of p.validity less) ≡ items_of p.validity p.slots =
    map_table (plus_reference p.ptype r) (items_of p.validity less) (length p.slots) None (length-items_of p.validity less covered_too ∙ long) ∙ slots_back p.ptype (λ k. r) p.validity p.slots covered fit in
    ap (λ xs. record { dtype = Primitive p.ptype (nullability_of p.validity); items = xs }) (ap (λ zs. map (plus_reference p.ptype r) (items_of p.validity zs)) slots ∙ items)

least_back : (p : PrimitiveParts) (least : Option ℤ) (parts : OneReference) → IsTrue (covers p.validity (length p.slots)) → list_all (fits p.ptype) p.slots ≡ true → subtract_min p least ≡ Ok parts → column_of_one_reference parts ≡ column_of_primitive p
least_back p None parts covered fit e = cc
least_back p (Some least) parts covered fit e = let same : subtract_reference p least ≡ parts = cc in subst (λ x. column_of_one_reference x ≡ column_of_primitive p) same (less_reference_back p least covered fit)

pub global_back : (order : ItemOrder) (p : PrimitiveParts) (parts : OneReference) → IsTrue (covers p.validity (length p.slots)) → list_all (fits p.ptype) p.slots ≡ true → encode_global_by order p ≡ Ok parts → column_of_one_reference parts ≡ column_of_primitive p
global_back order p parts covered fit e = least_back p (least_by (reading order p.ptype) (items_of_primitive p)) parts covered fit e

-- ---- a reference for each chunk
less_references_back : (p : PrimitiveParts) (references : List ℤ) → IsTrue (covers p.validity (length p.slots)) → list_all (fits p.ptype) p.slots ≡ true → column_of_for (less_references p references) ≡ column_of_primitive p
less_references_back p references covered fit =
    let reference : ℕ → ℤ = λ i. get_or references (i / 1024) (pos 0) in
    let each = length-items_of p.validity p.slots covered in
    let less : ℕ → ℤ = λ k. minus_reference p.ptype (reference k) (get_or (items_of p.validity p.slots) k None) in
    let stored : chunked_slots p.ptype references (items_of p.validity p.slots) ≡ tabulate less (length p.slots) = ap (tabulate less) each in
    let long : length (tabulate less (length p.slots)) ≡ length p.slots = length-table less (length p.slots) in
    let covered_too : IsTrue (covers p.validity (length (tabulate less (length p.slots)))) = rw long covered in
    let count : length (items_of p.validity (tabulate less (length p.slots))) ≡ length p.slots = length-items_of p.validity (tabulate less (length p.slots)) covered_too ∙ long in
    let shown : List ℤ → List (Option ℤ) = λ zs. tabulate (λ i. plus_reference p.ptype (get_or references ((0 + i) / 1024) (pos 0)) (get_or (items_of p.validity zs) i None)) (length (items_of p.validity zs)) in
    let from_here : (i : ℕ) → 0 + i ≡ i = λ i. omega arith in
    let items : shown (tabulate less (length p.slots)) ≡ items_of p.validity p.slots =
    ap (tabulate (λ i. plus_reference p.ptype (get_or references ((0 + i) / 1024) (pos 0)) (get_or (items_of p.validity (tabulate less (length p.slots))) i None))) count
    ∙ (same_tables (λ i. plus_reference p.ptype (get_or references ((0 + i) / 1024) (pos 0)) (get_or (items_of p.validity (tabulate less (length p.slots))) i None)) (λ i. plus_reference p.ptype (reference i) (get_or (items_of p.validity (tabulate less (length p.slots))) i None)) (length p.slots)
    (λ i h. ap (λ n. plus_reference p.ptype (get_or references (n / 1024) (pos 0)) (get_or (items_of p.validity (tabulate less (length p.slots))) i None)) (from_here i))
    ∙ slots_back p.ptype reference p.validity p.slots covered fit) in
    ap (λ xs. record { dtype = Primitive p.ptype (nullability_of p.validity); items = xs }) (ap shown stored ∙ items)

common_back : (p : PrimitiveParts) (references : List ℤ) (common : Option ℤ) → IsTrue (covers p.validity (length p.slots)) → list_all (fits p.ptype) p.slots ≡ true → column_of_for (less_common p references common) ≡ column_of_primitive p
common_back p references None covered fit = less_references_back p references covered fit
common_back p references (Some reference) covered fit = less_reference_back p reference covered fit

-- ---- nothing but nulls
all_none : {A : Type 0} (xs : List (Option A)) → list_all is_none xs ≡ true → xs ≡ replicate (length xs) None
all_none [] e = refl
all_none (None ∷ xs) e = ap (λ ys. None ∷ ys) (all_none xs e)
all_none (Some x ∷ xs) e = cc

map_none : (ptype : PType) (r : ℤ) (n : ℕ) → map (plus_reference ptype r) (replicate n None) ≡ replicate n None
map_none ptype r zero = refl
map_none ptype r (suc n) = ap (λ ys. None ∷ ys) (map_none ptype r n)

first_of_nulls : (n : ℕ) → 0 < n → get_or (replicate {A = Option ℤ} n None) 0 None ≡ None
first_of_nulls zero h = absurd (omega arith)
first_of_nulls (suc n) h = refl

nulls_back : (p : PrimitiveParts) → IsTrue (covers p.validity (length p.slots)) → 0 < length p.slots → list_all is_none (items_of_primitive p) ≡ true
    → global_for (pos 0) (record { dtype = Primitive p.ptype Nullable; items = replicate (length p.slots) None }) ≡ column_of_primitive p
nulls_back p covered some nulls =
    let each = length-items_of p.validity p.slots covered in
    let items : items_of p.validity p.slots ≡ replicate (length p.slots) None = all_none (items_of p.validity p.slots) nulls ∙ ap (λ n. replicate n None) each in
    let nullable : nullability_of p.validity ≡ Nullable = nullable_by_item p.validity p.slots 0 (ap (λ xs. get_or xs 0 None) items ∙ first_of_nulls (length p.slots) some) some in
    rw (nullable, items) (ap (λ xs. record { dtype = Primitive p.ptype Nullable; items = xs }) (map_none p.ptype (pos 0) (length p.slots)))

chosen_back : (order : ItemOrder) (p : PrimitiveParts) (nulls : FoRParts) (b : Bool) → (b ≡ true → column_of_for nulls ≡ column_of_primitive p) → column_of_for (less_chunk_leasts order p) ≡ column_of_primitive p
    → column_of_for (if b then nulls else less_chunk_leasts order p) ≡ column_of_primitive p
chosen_back order p nulls true here other = here refl
chosen_back order p nulls false here other = other

pub chunked_back : (order : ItemOrder) (p : PrimitiveParts) → IsTrue (covers p.validity (length p.slots)) → list_all (fits p.ptype) p.slots ≡ true → column_of_for (encode_chunked_by order p) ≡ column_of_primitive p
chunked_back order p covered fit =
    let references = chunk_references (reading order p.ptype) (items_of_primitive p) in
    chosen_back order p _ (nat_lt 0 (length p.slots) && list_all is_none (items_of_primitive p))
    (λ both. nulls_back p covered (ltb-true _ _ (and_first (nat_lt 0 (length p.slots)) (list_all is_none (items_of_primitive p)) both)) (and_second (nat_lt 0 (length p.slots)) (list_all is_none (items_of_primitive p)) both))
    (common_back p references (common_reference references) covered fit)
