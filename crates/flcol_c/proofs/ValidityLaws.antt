-- Validities and their bitmaps.
use Rattle.std.proofs.Common.{inl, inr, rules, ◌≡◌, ◌≢◌, ℕ, ◌+◌, ◌-◌, ◌/◌, ◌<◌, ◌≤◌, List, [], ◌∷◌, zero, suc, length, get_or, map, count_by, Bool, true, false, Option, Some, None, IsTrue, cond, arith, ◌∙◌, ap, sym, refl}
use Rattle.std.proofs.lemmas.List.{get_or_default, same_lists}
use Rattle.std.proofs.lemmas.Bool.{cases_eq}
use Rattle.std.proofs.lemmas.List.Sums.{count_by-le-length, sum_by-cons}
use Rattle.std.proofs.lemmas.List.FromFn.{length-map-range_with_len, get_or-map-range_with_len}
use Rattle.std.proofs.lemmas.Bool.Decides.{Decides-eqb}
use Rattle.std.specs.Prelude.{is_none}
use Rattle.fl_types.specs.Bits.{true_count}
use Rattle.fl_types.specs.Validities.{covers, is_valid_at, items_of, masked}
use Rattle.fl_types.specs.declared.validity.Validity.{Validity}
use Rattle.fl_types.specs.declared.validity.Validity.TheVariants as valid
use Rattle.fl_column.proofs.ItemLaws.{get_or-items_of, length-items_of}
use Rattle.fl_column.specs.Bitmaps.{bit_in}
use Rattle.fl_bitmaps.specs.Bitmaps.{items_in, validity_in}
use Rattle.flcol_c.specs.Bitmaps.{null_total, room_fault}

false_true : false ≡ true → ⊥
false_true e = cc

-- no more bits are true than there are
pub true_few : (bits : List Bool) → true_count bits ≤ length bits
true_few bits = count_by-le-length (λ b. b) bits

pub ruleset few_are_true = (true_few)

-- a bitmap has a bit for each item, or none at all
pub bitmap_covers : (bitmap : List ℕ) (n : ℕ) → IsTrue (covers (validity_in bitmap n) n)
bitmap_covers [] n = refl
bitmap_covers (byte ∷ bytes) n = (Decides-eqb _ _).1 (length-map-range_with_len (bit_in (byte ∷ bytes)) 0 n)

-- what a bitmap with bytes says of an item
pub marked_valid : (v : Validity) (bitmap : List ℕ) (n : ℕ) → length bitmap ≢ 0 → ((i : ℕ) → i < n → bit_in bitmap i ≡ is_valid_at v i) → (i : ℕ) → i < n → is_valid_at (validity_in bitmap n) i ≡ is_valid_at v i
marked_valid v [] n some bits i h = absurd (some refl)
marked_valid v (byte ∷ bytes) n some bits i h = get_or-map-range_with_len (bit_in (byte ∷ bytes)) 0 n i i false h (omega arith) ∙ bits i h

one_true : (bits : List Bool) → true_count (true ∷ bits) ≡ 1 + true_count bits
one_true bits = sum_by-cons (λ bit. cond bit 1 0) true bits

one_false : (bits : List Bool) → true_count (false ∷ bits) ≡ 0 + true_count bits
one_false bits = sum_by-cons (λ bit. cond bit 1 0) false bits

none_false : (bits : List Bool) (i : ℕ) → length bits - true_count bits ≡ 0 → i < length bits → get_or bits i false ≡ true
none_false [] i e h = absurd (omega arith)
none_false (true ∷ bits) zero e h = refl
none_false (true ∷ bits) (suc i) e h = let more = one_true bits in none_false bits i (omega arith) (omega arith)
none_false (false ∷ bits) i e h = let more = one_false bits in let few = true_few bits in absurd (omega arith)

-- without a null each item is valid
all_valid : (v : Validity) (n i : ℕ) → IsTrue (covers v n) → null_total v n ≡ 0 → i < n → is_valid_at v i ≡ true
all_valid valid.NonNullable n i k e h = refl
all_valid valid.AllValid n i k e h = refl
all_valid valid.AllInvalid n i k e h = absurd (omega arith)
all_valid (valid.Array bits) n i k e h = let len : length bits ≡ n = (Decides-eqb (length bits) n).0 k in none_false bits i e (omega arith)

no_room : (n nulls : ℕ) → n ≢ 0 → nulls ≢ 0 → room_fault 0 n nulls ≡ None → false ≡ true
no_room n nulls some null room = let bytes : 0 ≢ (n + 7) / 8 = omega arith in search rules

-- what no bytes say of an item, where they are room enough
pub unmarked_valid : (v : Validity) (bitmap : List ℕ) (n : ℕ) → length bitmap ≡ 0 → IsTrue (covers v n) → room_fault (length bitmap) n (null_total v n) ≡ None → (i : ℕ) → i < n → is_valid_at (validity_in bitmap n) i ≡ is_valid_at v i
unmarked_valid v (byte ∷ bytes) n none k room i h = absurd (omega arith)
unmarked_valid v [] n none k room i h =
    elim (cases_eq (null_total v n) 0) [
      | inl full ↦ sym (all_valid v n i k full h)
      | inr null ↦ let some : n ≢ 0 = omega arith in absurd (false_true (no_room n (null_total v n) some null room))
    ]

no_items : {A : Type 0} (v : Validity) → IsTrue (covers v 0) → items_of {A = A} v [] ≡ []
no_items valid.NonNullable k = refl
no_items valid.AllValid k = refl
no_items valid.AllInvalid k = refl
no_items (valid.Array []) k = refl
no_items (valid.Array (bit ∷ bits)) k = let len : length (bit ∷ bits) ≡ 0 = (Decides-eqb (length (bit ∷ bits)) 0).0 k in absurd (omega arith)

-- the same items under validities that say the same of each
pub items_alike : {A : Type 0} (v w : Validity) (xs : List A) → IsTrue (covers v (length xs)) → IsTrue (covers w (length xs)) → ((i : ℕ) → i < length xs → is_valid_at v i ≡ is_valid_at w i) → items_of v xs ≡ items_of w xs
items_alike v w [] k j same = no_items v k ∙ sym (no_items w j)
items_alike v w (x ∷ xs) k j same =
    let all = x ∷ xs in
    let long = length-items_of v all k in
    let as_long = length-items_of w all j in
    same_lists (items_of v all) (items_of w all) (long ∙ sym as_long) (λ i d h.
    let within : i < length all = omega (arith, long) in
    let within_other : i < length (items_of w all) = omega (arith, as_long) in
    get_or_default (items_of v all) i d None h ∙ get_or-items_of v all i x k within ∙ ap (λ b. cond b (Some (get_or all i x)) None) (same i within)
    ∙ sym (get_or_default (items_of w all) i d None within_other ∙ get_or-items_of w all i x j within))

pub one_null : {A : Type 0} (xs : List (Option A)) → count_by is_none (None ∷ xs) ≡ 1 + count_by is_none xs
one_null xs = sum_by-cons (λ x. cond (is_none x) 1 0) None xs

pub one_value : {A : Type 0} (x : A) (xs : List (Option A)) → count_by is_none (Some x ∷ xs) ≡ 0 + count_by is_none xs
one_value x xs = sum_by-cons (λ y. cond (is_none y) 1 0) (Some x) xs

no_null : {A : Type 0} (xs : List A) → count_by is_none (map (λ x. Some x) xs) ≡ 0
no_null [] = refl
no_null (x ∷ xs) = let more = one_value x (map (λ y. Some y) xs) in let rest = no_null xs in omega (arith, more, rest)

only_nulls : {A : Type 0} (xs : List A) → count_by is_none (items_of valid.AllInvalid xs) ≡ length xs
only_nulls [] = refl
only_nulls (x ∷ xs) = let more = one_null (items_of valid.AllInvalid xs) in let rest = only_nulls xs in omega (arith, more, rest)

masked_nulls : {A : Type 0} (bits : List Bool) (xs : List A) → length bits ≡ length xs → count_by is_none (masked bits xs) ≡ length bits - true_count bits
masked_nulls [] xs e = refl
masked_nulls (bit ∷ bits) [] e = absurd (omega arith)
masked_nulls (true ∷ bits) (x ∷ xs) e =
    let more = one_true bits in let same = one_value x (masked bits xs) in let rest = masked_nulls bits xs (omega arith) in omega (arith, more, same, rest)
masked_nulls (false ∷ bits) (x ∷ xs) e =
    let same = one_false bits in let more = one_null (masked bits xs) in let few = true_few bits in let rest = masked_nulls bits xs (omega arith) in omega (arith, more, same, few, rest)

-- how many items are null
pub nulls_counted : {A : Type 0} (v : Validity) (xs : List A) → IsTrue (covers v (length xs)) → count_by is_none (items_of v xs) ≡ null_total v (length xs)
nulls_counted valid.NonNullable xs k = no_null xs
nulls_counted valid.AllValid xs k = no_null xs
nulls_counted valid.AllInvalid xs k = only_nulls xs
nulls_counted (valid.Array bits) xs k = masked_nulls bits xs ((Decides-eqb (length bits) (length xs)).0 k)

-- the items under a validity and under the bitmap that says the same of each
pub items_marked : {A : Type 0} (v : Validity) (xs : List A) (bitmap : List ℕ) → IsTrue (covers v (length xs)) → ((i : ℕ) → i < length xs → is_valid_at (validity_in bitmap (length xs)) i ≡ is_valid_at v i) → items_of v xs ≡ items_in xs bitmap
items_marked v xs bitmap k same = items_alike v (validity_in bitmap (length xs)) xs k (bitmap_covers bitmap (length xs)) (λ i h. sym (same i h))

-- the room for the bitmap of items under a validity
pub room_of_items : {A : Type 0} (bytes : ℕ) (v : Validity) (xs : List A) (n : ℕ) → IsTrue (covers v (length xs)) → n ≡ length xs
    → room_fault bytes n (null_total v n) ≡ room_fault bytes (length (items_of v xs)) (count_by is_none (items_of v xs))
room_of_items bytes v xs n k e = rw (e, length-items_of v xs k, nulls_counted v xs k) refl

-- the same by the number of slots
pub room_of_bools : {A : Type 0} (bytes : ℕ) (v : Validity) (xs : List A) (n : ℕ) → IsTrue (covers v (length xs)) → n ≡ length xs
    → room_fault bytes n (null_total v n) ≡ room_fault bytes (length xs) (count_by is_none (items_of v xs))
room_of_bools bytes v xs n k e = rw (e, nulls_counted v xs k) refl
