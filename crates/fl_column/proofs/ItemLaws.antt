-- The items under a validity: how many, which, and those of a part.
use denote.Enum.Bare.{sameb}
use Rattle.fl_types.specs.contracts.dtype.PType.{the_type as the_ptype}
use Rattle.fl_types.specs.declared.dtype.PType.TheVariants as ptypes
use Rattle.std.proofs.Common.{◌≡◌, ℕ, zero, suc, ◌+◌, ◌-◌, ◌<◌, ◌≤◌, ℤ, pos, Bool, true, false, List, [], ◌∷◌, ◌++◌, length, map, take, drop, replicate, get_or, Option, Some, None, option_map, IsTrue, cond, refl, ap, ◌∙◌, sym, arith, slice_get, is_some, unwrap_or, Result, Ok, ◌==◌, length-take, length-drop}
use Rattle.std.specs.List.{list_all}
use Rattle.std.specs.Result.{IsOk}
use Rattle.std.proofs.lemmas.List.{take-map, drop-map, length-map, get_or-map, map-append, map_more, replicate_more, take-replicate, drop-replicate, length-replicate, same_lists, get_or_default}
use Rattle.std.proofs.lemmas.Option.{get_or_from_slice_get}
use Rattle.std.proofs.lemmas.Bool.Decides.{Decides-eqb}
use Rattle.fl_types.specs.Bits.{between}
use Rattle.fl_types.specs.Refusals.{Answers}
use Rattle.fl_types.specs.declared.error.FastLanesError.{FastLanesError}
use Rattle.fl_types.specs.declared.dtype.PType.{PType}
use Rattle.fl_types.specs.Integers.{fits, pattern_of, read_as, other_sign, bits_of_type}
use Rattle.fl_types.proofs.Patterns.{read_pattern}
use Rattle.std.specs.List.{list_all}
use Rattle.fl_column.proofs.ListLaws.{and_first, and_second}
use Rattle.fl_column.specs.Operations.{slice_of}
use Rattle.fl_column.specs.Columns.{Column, PrimitiveParts, column_of_bools, column_of_primitive, reinterpret_primitive, new_primitive, primitive_of_options}
use Rattle.fl_types.specs.Validities.{items_of, covers, masked, is_valid_at, validity_between, nullability_of}
use Rattle.fl_types.specs.declared.dtype.Nullability.TheVariants.{Nullable}
use Rattle.fl_types.specs.declared.validity.Validity.{Validity}
use Rattle.fl_types.specs.declared.validity.Validity.TheVariants as valid

pub length-masked : {A : Type 0} (bits : List Bool) (xs : List A) → length bits ≡ length xs → length (masked bits xs) ≡ length xs
length-masked [] [] e = refl
length-masked [] (x ∷ xs) e = absurd (omega arith)
length-masked (b ∷ bits) [] e = absurd (omega arith)
length-masked (b ∷ bits) (x ∷ xs) e = ap suc (length-masked bits xs (omega arith))

-- there is an item for each slot
pub length-items_of : {A : Type 0} (v : Validity) (xs : List A) → IsTrue (covers v (length xs)) → length (items_of v xs) ≡ length xs
length-items_of valid.NonNullable xs k = simp length-map
length-items_of valid.AllValid xs k = simp length-map
length-items_of valid.AllInvalid xs k = simp length-map
length-items_of (valid.Array bits) xs k = length-masked bits xs ((Decides-eqb (length bits) (length xs)).0 k)

pub ruleset lengths = (length-items_of)

take-masked : {A : Type 0} (n : ℕ) (bits : List Bool) (xs : List A) → take n (masked bits xs) ≡ masked (take n bits) (take n xs)
take-masked zero bits xs = refl
take-masked (suc n) [] xs = refl
take-masked (suc n) (b ∷ bits) [] = refl
take-masked (suc n) (true ∷ bits) (x ∷ xs) = ap (λ ys. Some x ∷ ys) (take-masked n bits xs)
take-masked (suc n) (false ∷ bits) (x ∷ xs) = ap (λ ys. None ∷ ys) (take-masked n bits xs)

masked-none : {A : Type 0} (bits : List Bool) → masked {A = A} bits [] ≡ []
masked-none [] = refl
masked-none (b ∷ bits) = refl

drop-masked : {A : Type 0} (n : ℕ) (bits : List Bool) (xs : List A) → drop n (masked bits xs) ≡ masked (drop n bits) (drop n xs)
drop-masked zero bits xs = refl
drop-masked (suc n) [] xs = refl
drop-masked (suc n) (b ∷ bits) [] = sym (masked-none (drop n bits))
drop-masked (suc n) (b ∷ bits) (x ∷ xs) = drop-masked n bits xs

-- the items of a part are a part of the items
pub items_of-between : {A : Type 0} (v : Validity) (xs : List A) (start end : ℕ) → items_of (validity_between start end v) (between start end xs) ≡ between start end (items_of v xs)
items_of-between valid.NonNullable xs start end = simp (take-map, drop-map)
items_of-between valid.AllValid xs start end = simp (take-map, drop-map)
items_of-between valid.AllInvalid xs start end = simp (take-map, drop-map)
items_of-between (valid.Array bits) xs start end = sym (ap (take (end - start)) (drop-masked start bits xs) ∙ take-masked (end - start) (drop start bits) (drop start xs))

pub nullability_of-between : (v : Validity) (start end : ℕ) → nullability_of (validity_between start end v) ≡ nullability_of v
nullability_of-between valid.NonNullable start end = refl
nullability_of-between valid.AllValid start end = refl
nullability_of-between valid.AllInvalid start end = refl
nullability_of-between (valid.Array bits) start end = refl

pub length-between : {A : Type 0} (xs : List A) (start end : ℕ) → start ≤ end → end ≤ length xs → length (between start end xs) ≡ end - start
length-between xs start end o r = grind (arith, length-take, length-drop)

-- a part of the validity covers a part of the slots
pub covers-between : {A : Type 0} (v : Validity) (xs : List A) (start end : ℕ) → start ≤ end → end ≤ length xs → IsTrue (covers v (length xs)) → IsTrue (covers (validity_between start end v) (length (between start end xs)))
covers-between valid.NonNullable xs start end o r k = refl
covers-between valid.AllValid xs start end o r k = refl
covers-between valid.AllInvalid xs start end o r k = refl
covers-between (valid.Array bits) xs start end o r k =
    let one_each : length bits ≡ length xs = (Decides-eqb (length bits) (length xs)).0 k in
    (Decides-eqb _ _).1 (length-between bits start end o (omega arith) ∙ sym (length-between xs start end o r))

pub ruleset slices = (items_of-between, nullability_of-between, covers-between, length-items_of)

-- what lies within the items lies within the slots
pub within_slots : {A : Type 0} (v : Validity) (xs : List A) (n : ℕ) → IsTrue (covers v (length xs)) → n ≤ length (items_of v xs) → n ≤ length xs
within_slots v xs n k h = rw (← length-items_of v xs k) h

-- the validity that was made for a part covers the slots that were
pub part_covered : {A : Type 0} (v w : Validity) (xs ys : List A) (start end : ℕ) → start ≤ end → end ≤ length xs → IsTrue (covers v (length xs)) → ◌≡◌ {A = Result Validity FastLanesError} (Ok (validity_between start end v)) (Ok w) → ys ≡ between start end xs → IsTrue (covers w (length ys))
part_covered v w xs ys start end o r k part slots =
    let same : validity_between start end v ≡ w = cc in
    rw (slots, ← same) (covers-between v xs start end o r k)

ok_is : {A : Type 0} (x y : A) → ◌≡◌ {A = Result A FastLanesError} (Ok x) (Ok y) → x ≡ y
ok_is x y e = cc

-- the same of truth values
pub bools_covered : (v w : Validity) (xs ys : List Bool) (start end : ℕ) → start ≤ end → end ≤ length xs → IsTrue (covers v (length xs)) → ◌≡◌ {A = Result Validity FastLanesError} (Ok (validity_between start end v)) (Ok w) → ◌≡◌ {A = Result (List Bool) FastLanesError} (Ok (between start end xs)) (Ok ys) → IsTrue (covers w (length ys))
bools_covered v w xs ys start end o r k part made = part_covered v w xs ys start end o r k part (sym (ok_is (between start end xs) ys made))

-- the array that was made of a part is that part of the column
pub part_of_plain : (t u : PType) (v w : Validity) (xs ys : List ℤ) (start end : ℕ) → u ≡ t → ◌≡◌ {A = Result Validity FastLanesError} (Ok (validity_between start end v)) (Ok w) → ys ≡ between start end xs
    → ◌≡◌ {A = Result Column FastLanesError} (Ok (slice_of start end (column_of_primitive (record { ptype = t; slots = xs; validity = v })))) (Ok (column_of_primitive (record { ptype = u; slots = ys; validity = w })))
part_of_plain t u v w xs ys start end typed part slots = rw (typed, slots, ← ok_is (validity_between start end v) w part, nullability_of-between, items_of-between) refl

-- the truth values that were made of a part are that part of the column
pub part_of_bools : (v w : Validity) (xs ys : List Bool) (start end : ℕ) → ◌≡◌ {A = Result Validity FastLanesError} (Ok (validity_between start end v)) (Ok w) → ◌≡◌ {A = Result (List Bool) FastLanesError} (Ok (between start end xs)) (Ok ys)
    → ◌≡◌ {A = Result Column FastLanesError} (Ok (slice_of start end (column_of_bools (record { bits = xs; validity = v })))) (Ok (column_of_bools (record { bits = ys; validity = w })))
part_of_bools v w xs ys start end part made = rw (← ok_is (validity_between start end v) w part, ← ok_is (between start end xs) ys made, nullability_of-between, items_of-between, drop-map, take-map) refl

get_or-masked : {A : Type 0} (bits : List Bool) (xs : List A) (i : ℕ) (d : A) → length bits ≡ length xs → i < length xs → get_or (masked bits xs) i None ≡ cond (get_or bits i false) (Some (get_or xs i d)) None
get_or-masked [] xs i d n h = absurd (omega arith)
get_or-masked (b ∷ bits) [] i d n h = absurd (omega arith)
get_or-masked (true ∷ bits) (x ∷ xs) zero d n h = refl
get_or-masked (false ∷ bits) (x ∷ xs) zero d n h = refl
get_or-masked (b ∷ bits) (x ∷ xs) (suc i) d n h = get_or-masked bits xs i d (omega arith) (omega arith)

-- an item is its slot where it is valid, else null
pub get_or-items_of : {A : Type 0} (v : Validity) (xs : List A) (i : ℕ) (d : A) → IsTrue (covers v (length xs)) → i < length xs → get_or (items_of v xs) i None ≡ cond (is_valid_at v i) (Some (get_or xs i d)) None
get_or-items_of valid.NonNullable xs i d k h = get_or-map (λ x. Some x) xs i d None h
get_or-items_of valid.AllValid xs i d k h = get_or-map (λ x. Some x) xs i d None h
get_or-items_of {A} valid.AllInvalid xs i d k h = let none_of : A → Option A = λ x. None in get_or-map none_of xs i d None h
get_or-items_of (valid.Array bits) xs i d k h = get_or-masked bits xs i d ((Decides-eqb (length bits) (length xs)).0 k) h

-- an item that counts
pub valid_item : {A : Type 0} (v : Validity) (xs : List A) (i : ℕ) (x : A) → IsTrue (covers v (length xs)) → i < length xs → is_valid_at v i ≡ true → x ≡ get_or xs i x → get_or (items_of v xs) i None ≡ Some x
valid_item v xs i x k h b e = get_or-items_of v xs i x k h ∙ (rw (b, ← e) refl)

-- an item that does not
pub null_item : {A : Type 0} (v : Validity) (xs : List A) (i : ℕ) (d : A) → IsTrue (covers v (length xs)) → i < length xs → is_valid_at v i ≡ false → get_or (items_of v xs) i None ≡ None
null_item v xs i d k h b = get_or-items_of v xs i d k h ∙ (rw b refl)

-- copies stay copies
pub map-replicate : {A B : Type 0} (f : A → B) (n : ℕ) (x : A) → map f (replicate n x) ≡ replicate n (f x)
map-replicate f zero x = refl
map-replicate f (suc n) x = ap (λ xs. f x ∷ xs) (map-replicate f n x)

-- a part of copies is copies
pub between_constant : {A : Type 0} (x : A) (n start end : ℕ) → start ≤ end → end ≤ n → between start end (replicate n x) ≡ replicate (end - start) x
between_constant x n start end o r = grind (arith, take-replicate, drop-replicate)

pub ruleset parts_of_constant = (between_constant, length-replicate)

pub ruleset constant_items = (map-replicate)

no_null : {A : Type 0} (xs : List A) (i : ℕ) → get_or (map (λ x. Some x) xs) i None ≡ None → i < length xs → ⊥
no_null [] i e h = absurd (omega arith)
no_null (x ∷ xs) zero e h = cc
no_null (x ∷ xs) (suc i) e h = no_null xs i e (omega arith)

-- where an item is null the column may have nulls
pub nullable_by_item : {A : Type 0} (v : Validity) (xs : List A) (i : ℕ) → get_or (items_of v xs) i None ≡ None → i < length xs → nullability_of v ≡ Nullable
nullable_by_item valid.NonNullable xs i e h = absurd (no_null xs i e h)
nullable_by_item valid.AllValid xs i e h = refl
nullable_by_item valid.AllInvalid xs i e h = refl
nullable_by_item (valid.Array bits) xs i e h = refl

-- a map keeps the length, and goes through a part
pub ruleset mapped = (length-map, take-map, drop-map)

-- the same, where the slot was read from a list
pub valid_item_got : {A : Type 0} (v : Validity) (xs : List A) (i : ℕ) (x : A) → IsTrue (covers v (length xs)) → i < length xs → is_valid_at v i ≡ true → slice_get xs i ≡ Some x → get_or (items_of v xs) i None ≡ Some x
valid_item_got v xs i x k h b e = get_or-items_of v xs i x k h ∙ (rw (b, get_or_from_slice_get xs i x x e) refl)

-- a null stays null under a map of the values
pub null_stays : {A B : Type 0} (f : A → B) (xs : List (Option A)) (i : ℕ) → get_or xs i None ≡ None → get_or (map (option_map f) xs) i None ≡ None
null_stays f [] i e = refl
null_stays f (x ∷ xs) zero e = ap (option_map f) e
null_stays f (x ∷ xs) (suc i) e = null_stays f xs i e

-- masked parts, one behind the other
pub masked-append : {A : Type 0} (bits more : List Bool) (xs ys : List A) → length bits ≡ length xs → masked (bits ++ more) (xs ++ ys) ≡ masked bits xs ++ masked more ys
masked-append [] more [] ys e = refl
masked-append [] more (x ∷ xs) ys e = absurd (omega arith)
masked-append (b ∷ bits) more [] ys e = absurd (omega arith)
masked-append (true ∷ bits) more (x ∷ xs) ys e = ap (λ zs. Some x ∷ zs) (masked-append bits more xs ys (omega arith))
masked-append (false ∷ bits) more (x ∷ xs) ys e = ap (λ zs. None ∷ zs) (masked-append bits more xs ys (omega arith))

covers-map : {A B : Type 0} (f : A → B) (v : Validity) (xs : List A) → IsTrue (covers v (length xs)) → IsTrue (covers v (length (map f xs)))
covers-map f v xs k = rw length-map k

-- the same of slots that are read through their values
pub valid_item_read : {A B : Type 0} (f : A → B) (v : Validity) (xs : List A) (i : ℕ) (x : A) → IsTrue (covers v (length xs)) → i < length xs → is_valid_at v i ≡ true → x ≡ get_or xs i x → get_or (items_of v (map f xs)) i None ≡ Some (f x)
valid_item_read f v xs i x k h b e = get_or-items_of v (map f xs) i (f x) (covers-map f v xs k) (rw length-map h) ∙ (rw (b, get_or-map f xs i x (f x) h, ← e) refl)

pub null_item_read : {A B : Type 0} (f : A → B) (v : Validity) (xs : List A) (i : ℕ) → IsTrue (covers v (length xs)) → i < length xs → is_valid_at v i ≡ false → get_or (items_of v (map f xs)) i None ≡ None
null_item_read f v [] i k h b = absurd (omega arith)
null_item_read f v (x ∷ xs) i k h b = get_or-items_of v (map f (x ∷ xs)) i (f x) (covers-map f v (x ∷ xs) k) (rw length-map h) ∙ (rw b refl)

one_masked : {A B : Type 0} (f : A → B) (item : Option A) (d : A) → masked (is_some item ∷ []) (f (unwrap_or item d) ∷ []) ≡ option_map f item ∷ []
one_masked f None d = refl
one_masked f (Some x) d = refl

-- one more item with its bit
pub masked_more : {A B : Type 0} (f : A → B) (bits : List Bool) (slots : List A) (item : Option A) (d : A) → length bits ≡ length slots
    → masked (bits ++ is_some item ∷ []) (map f (slots ++ unwrap_or item d ∷ [])) ≡ masked bits (map f slots) ++ option_map f item ∷ []
masked_more f bits slots item d even = rw map-append (masked-append bits (is_some item ∷ []) (map f slots) (f (unwrap_or item d) ∷ []) (even ∙ sym (length-map slots f)) ∙ ap (λ xs. masked bits (map f slots) ++ xs) (one_masked f item d))

-- without a null each slot is an item
pub no_nulls_masked : {A : Type 0} (bits : List Bool) (slots : List A) → length bits ≡ length slots → list_all is_some (masked bits slots) ≡ true → masked bits slots ≡ map (λ x. Some x) slots
no_nulls_masked [] [] even all = refl
no_nulls_masked [] (x ∷ slots) even all = absurd (omega arith)
no_nulls_masked (b ∷ bits) [] even all = absurd (omega arith)
no_nulls_masked (true ∷ bits) (x ∷ slots) even all = ap (λ xs. Some x ∷ xs) (no_nulls_masked bits slots (omega arith) all)
no_nulls_masked (false ∷ bits) (x ∷ slots) even all = cc

-- one more copy, seen through a map
pub ruleset repeats = (map-replicate, replicate_more, map-append)

-- the array of optional integers
pub new_options : (ptype : PType) (items : List (Option ℤ)) (slots : List ℤ) (bits : List Bool) (r : Result PrimitiveParts FastLanesError) → slots ≡ map (λ item. unwrap_or item (pos 0)) items → bits ≡ map (λ item. is_some item) items
    → r ≡ new_primitive ptype slots (valid.Array bits) → Answers (λ a. a) r (Ok (primitive_of_options ptype items))
new_options ptype items slots bits r e f is =
    let even : length bits ≡ length slots = rw (e, f) (length-map items (λ item. is_some item) ∙ sym (length-map items (λ item. unwrap_or item (pos 0)))) in
    let covered : (length bits == length slots) ≡ true = (Decides-eqb (length bits) (length slots)).1 even in
    let made : r ≡ Ok (record { ptype = ptype; slots = slots; validity = valid.Array bits }) = is ∙ (rw covered refl) in
    rw made (rw (e, f) refl)

-- parts of one length make an array
pub parts_fit : (ptype : PType) (slots : List ℤ) (bits : List Bool) (r : Result PrimitiveParts FastLanesError) → length bits ≡ length slots → r ≡ new_primitive ptype slots (valid.Array bits) → IsOk r
parts_fit ptype slots bits r even is =
    let covered : (length bits == length slots) ≡ true = (Decides-eqb (length bits) (length slots)).1 even in
    rw (is, covered) refl

-- one more item of a list that is mapped, as a loop reads it
pub map_read : {A B : Type 0} (f : A → B) (xs : List A) (i : ℕ) (x : A) → i < length xs → x ≡ get_or xs i x → map f (take (i + 1) xs) ≡ map f (take i xs) ++ f x ∷ []
map_read f xs i x h e = map_more f xs i x h ∙ ap (λ y. map f (take i xs) ++ f y ∷ []) (sym e)

pub is_some-option_map : {A B : Type 0} (f : A → B) (x : Option A) → is_some x ≡ is_some (option_map f x)
is_some-option_map f None = refl
is_some-option_map f (Some x) = refl

-- the value of an item, 0 for a null
pub slot_value : {A : Type 0} (f : A → ℤ) (item : Option A) (other slot : A) → slot ≡ unwrap_or item other → f other ≡ pos 0 → f slot ≡ unwrap_or (option_map f item) (pos 0)
slot_value f None other slot e z = ap f e ∙ z
slot_value f (Some x) other slot e z = ap f e

rereads : (t : PType) (zs : List ℤ) → list_all (fits t) zs ≡ true → map (λ z. read_as t (pattern_of t z)) zs ≡ zs
rereads t [] fit = refl
rereads t (z ∷ zs) fit =
    let first = read_pattern t z (and_first (fits t z) (list_all (fits t) zs) fit) in
    let rest = rereads t zs (and_second (fits t z) (list_all (fits t) zs) fit) in
    (λ i. first i ∷ rest i)

-- the patterns of an array, read as its own type
pub reread_same : (p : PrimitiveParts) (t : PType) → p.ptype ≡ t → IsTrue (list_all (fits p.ptype) p.slots) → p ≡ reinterpret_primitive t p
reread_same p t e fit = sym (rw (← e) (ap (λ zs. record { ptype = p.ptype; slots = zs; validity = p.validity }) (rereads p.ptype p.slots fit)))

-- types of the same width that differ differ in their sign
pub other_type : (s t : PType) → false ≡ sameb the_ptype s t → bits_of_type t ≡ bits_of_type s → other_sign s ≡ t
other_type ptypes.U8 ptypes.U8 h e = cc
other_type ptypes.U8 ptypes.U16 h e = absurd (omega arith)
other_type ptypes.U8 ptypes.U32 h e = absurd (omega arith)
other_type ptypes.U8 ptypes.U64 h e = absurd (omega arith)
other_type ptypes.U8 ptypes.I8 h e = refl
other_type ptypes.U8 ptypes.I16 h e = absurd (omega arith)
other_type ptypes.U8 ptypes.I32 h e = absurd (omega arith)
other_type ptypes.U8 ptypes.I64 h e = absurd (omega arith)
other_type ptypes.U16 ptypes.U8 h e = absurd (omega arith)
other_type ptypes.U16 ptypes.U16 h e = cc
other_type ptypes.U16 ptypes.U32 h e = absurd (omega arith)
other_type ptypes.U16 ptypes.U64 h e = absurd (omega arith)
other_type ptypes.U16 ptypes.I8 h e = absurd (omega arith)
other_type ptypes.U16 ptypes.I16 h e = refl
other_type ptypes.U16 ptypes.I32 h e = absurd (omega arith)
other_type ptypes.U16 ptypes.I64 h e = absurd (omega arith)
other_type ptypes.U32 ptypes.U8 h e = absurd (omega arith)
other_type ptypes.U32 ptypes.U16 h e = absurd (omega arith)
other_type ptypes.U32 ptypes.U32 h e = cc
other_type ptypes.U32 ptypes.U64 h e = absurd (omega arith)
other_type ptypes.U32 ptypes.I8 h e = absurd (omega arith)
other_type ptypes.U32 ptypes.I16 h e = absurd (omega arith)
other_type ptypes.U32 ptypes.I32 h e = refl
other_type ptypes.U32 ptypes.I64 h e = absurd (omega arith)
other_type ptypes.U64 ptypes.U8 h e = absurd (omega arith)
other_type ptypes.U64 ptypes.U16 h e = absurd (omega arith)
other_type ptypes.U64 ptypes.U32 h e = absurd (omega arith)
other_type ptypes.U64 ptypes.U64 h e = cc
other_type ptypes.U64 ptypes.I8 h e = absurd (omega arith)
other_type ptypes.U64 ptypes.I16 h e = absurd (omega arith)
other_type ptypes.U64 ptypes.I32 h e = absurd (omega arith)
other_type ptypes.U64 ptypes.I64 h e = refl
other_type ptypes.I8 ptypes.U8 h e = refl
other_type ptypes.I8 ptypes.U16 h e = absurd (omega arith)
other_type ptypes.I8 ptypes.U32 h e = absurd (omega arith)
other_type ptypes.I8 ptypes.U64 h e = absurd (omega arith)
other_type ptypes.I8 ptypes.I8 h e = cc
other_type ptypes.I8 ptypes.I16 h e = absurd (omega arith)
other_type ptypes.I8 ptypes.I32 h e = absurd (omega arith)
other_type ptypes.I8 ptypes.I64 h e = absurd (omega arith)
other_type ptypes.I16 ptypes.U8 h e = absurd (omega arith)
other_type ptypes.I16 ptypes.U16 h e = refl
other_type ptypes.I16 ptypes.U32 h e = absurd (omega arith)
other_type ptypes.I16 ptypes.U64 h e = absurd (omega arith)
other_type ptypes.I16 ptypes.I8 h e = absurd (omega arith)
other_type ptypes.I16 ptypes.I16 h e = cc
other_type ptypes.I16 ptypes.I32 h e = absurd (omega arith)
other_type ptypes.I16 ptypes.I64 h e = absurd (omega arith)
other_type ptypes.I32 ptypes.U8 h e = absurd (omega arith)
other_type ptypes.I32 ptypes.U16 h e = absurd (omega arith)
other_type ptypes.I32 ptypes.U32 h e = refl
other_type ptypes.I32 ptypes.U64 h e = absurd (omega arith)
other_type ptypes.I32 ptypes.I8 h e = absurd (omega arith)
other_type ptypes.I32 ptypes.I16 h e = absurd (omega arith)
other_type ptypes.I32 ptypes.I32 h e = cc
other_type ptypes.I32 ptypes.I64 h e = absurd (omega arith)
other_type ptypes.I64 ptypes.U8 h e = absurd (omega arith)
other_type ptypes.I64 ptypes.U16 h e = absurd (omega arith)
other_type ptypes.I64 ptypes.U32 h e = absurd (omega arith)
other_type ptypes.I64 ptypes.U64 h e = refl
other_type ptypes.I64 ptypes.I8 h e = absurd (omega arith)
other_type ptypes.I64 ptypes.I16 h e = absurd (omega arith)
other_type ptypes.I64 ptypes.I32 h e = absurd (omega arith)
other_type ptypes.I64 ptypes.I64 h e = cc

-- an array of these parts, whose patterns are read as the type of the other sign
pub reread_other : (p q : PrimitiveParts) (t u s : PType) (xs ys : List ℤ) (v : Validity) → q ≡ record { ptype = u; slots = ys; validity = v } → u ≡ other_sign s → ys ≡ map (λ z. read_as (other_sign s) (pattern_of s z)) xs → s ≡ p.ptype → xs ≡ p.slots → v ≡ p.validity
    → other_sign p.ptype ≡ t → reinterpret_primitive t p ≡ q
reread_other p q t u s xs ys v parts type slots same_type same_slots same_validity other = sym (rw (parts, type, slots, same_type, same_slots, same_validity, other) refl)
