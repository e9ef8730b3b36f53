-- Negative items, block by block, as the histograms of the blocks count them.
use Rattle.std.proofs.Common.{◌≡◌, ℕ, ℤ, pos, zero, suc, ◌+◌, ◌-◌, ◌*◌, ◌<◌, ◌≤◌, ◌&&◌, ◌||◌, Bool, true, false, not, nat_lt, List, [], ◌∷◌, length, map, min, take, drop, get_or, replicate, Option, None, IsTrue, refl, ap, sym, ◌∙◌, arith, inl, inr}
use Rattle.std.proofs.lemmas.Bool.{cases_Bool, true≢false}
use Rattle.std.proofs.lemmas.List.{get_or-drop, get_or-map, get_or-take, get_or_default, length-drop, length-map, length-take, take_all}
use Rattle.std.proofs.lemmas.List.Folds.{list_any-append, list_any_more}
use Rattle.std.specs.List.{list_all, list_any}
use Rattle.fl_types.specs.declared.dtype.PType.{PType}
use Rattle.fl_types.specs.Bits.{between}
use Rattle.fl_types.specs.Integers.{bits_of_type, fits, is_unsigned}
use Rattle.fl_column.specs.Columns.{option_all}
use Rattle.std.specs.Prelude.{int_lt}
use Rattle.fl_types.specs.declared.validity.Validity.{Validity}
use Rattle.fl_types.specs.Validities.{covers, is_valid_at, items_of}
use Rattle.fl_patches.proofs.Gathers.{covered_values, read_part}
use Rattle.fl_patches.proofs.Negatives.{negative_item}
use Rattle.fl_column.proofs.ListLaws.{all_part, any_at, any_from, and_true, list_all-append}
use Rattle.fl_patches.specs.Costs.{block_histogram, padded_block}
use Rattle.fl_patches.specs.Exceptions.{is_negative}
use Rattle.fl_patches.proofs.Blocks.{take_between}
use Rattle.fl_patches.proofs.Signs.{signs_counted}

no_negative_null : (n : ℕ) → list_any is_negative (replicate n None) ≡ false
no_negative_null zero = refl
no_negative_null (suc n) = no_negative_null n

nulls_fit : (t : PType) (n : ℕ) → list_all (option_all (fits t)) (replicate n None) ≡ true
nulls_fit t zero = refl
nulls_fit t (suc n) = nulls_fit t n

or_false : (b : Bool) → (b || false) ≡ b
or_false true = refl
or_false false = refl

padded_negative : (items : List (Option ℤ)) (j : ℕ) → list_any is_negative (padded_block items j) ≡ list_any is_negative (between (1024 * j) (1024 * (j + 1)) items)
padded_negative items j =
    let block : List (Option ℤ) = between (1024 * j) (1024 * (j + 1)) items in
    list_any-append is_negative block (replicate (1024 - length block) None) ∙ (ap (λ b. list_any is_negative block || b) (no_negative_null (1024 - length block)) ∙ or_false (list_any is_negative block))

padded_fit : (t : PType) (items : List (Option ℤ)) (j : ℕ) → IsTrue (list_all (option_all (fits t)) items) → IsTrue (list_all (option_all (fits t)) (padded_block items j))
padded_fit t items j fit =
    let block : List (Option ℤ) = between (1024 * j) (1024 * (j + 1)) items in
    list_all-append (option_all (fits t)) block (replicate (1024 - length block) None) ∙ and_true _ _ (all_part (option_all (fits t)) items (1024 * j) (1024 * (j + 1)) fit) (nulls_fit t (1024 - length block))

-- a block's histogram tells whether an item of it is negative
pub block_signs : (t : PType) (items : List (Option ℤ)) (j : ℕ) (entries : List ℕ) → entries ≡ block_histogram t items j → IsTrue (list_all (option_all (fits t)) items)
    → (not (is_unsigned t) && nat_lt 0 (get_or entries (bits_of_type t) 0)) ≡ list_any is_negative (between (1024 * j) (1024 * (j + 1)) items)
unfolding block_histogram
block_signs t items j entries is fit = signs_counted t (padded_block items j) entries is (padded_fit t items j fit) ∙ padded_negative items j

-- no item of one block more
pub none_more : (items : List (Option ℤ)) (block : ℕ) → list_any is_negative (take (1024 * block) items) ≡ false → list_any is_negative (between (1024 * block) (1024 * (block + 1)) items) ≡ false
    → list_any is_negative (take (1024 * (block + 1)) items) ≡ false
none_more items block before here =
    rw (take_between items (1024 * block) (1024 * (block + 1)) (omega arith), list_any-append, before, here) refl

any_first : {A : Type 0} (p : A → Bool) (xs : List A) (n : ℕ) → list_any p (take n xs) ≡ true → list_any p xs ≡ true
any_first p xs zero h = absurd (cc)
any_first p [] (suc n) h = h
any_first p (x ∷ xs) (suc n) h = elim (cases_Bool (p x)) [
  | inl here ↦ rw here refl
  | inr there ↦ rw there (any_first p xs n (rw there at h))
]

any_rest : {A : Type 0} (p : A → Bool) (xs : List A) (n : ℕ) → list_any p (drop n xs) ≡ true → list_any p xs ≡ true
any_rest p xs zero h = h
any_rest p [] (suc n) h = h
any_rest p (x ∷ xs) (suc n) h = elim (cases_Bool (p x)) [
  | inl here ↦ rw here refl
  | inr there ↦ rw there (any_rest p xs n h)
]

-- an item of a block is one of all items
pub negative_in_block : (items : List (Option ℤ)) (block : ℕ) → list_any is_negative (between (1024 * block) (1024 * (block + 1)) items) ≡ true → list_any is_negative items ≡ true
negative_in_block items block h = any_rest is_negative items (1024 * block) (any_first is_negative (drop (1024 * block) items) (1024 * (block + 1) - 1024 * block) h)

-- no item of all blocks
pub none_of_all : (items : List (Option ℤ)) (block : ℕ) → length items ≤ 1024 * block → list_any is_negative (take (1024 * block) items) ≡ false → list_any is_negative items ≡ false
none_of_all items block room none = ap (list_any is_negative) (sym (take_all (1024 * block) items room)) ∙ none

-- ---- the values of a block
abbrev pub below_zero : ℤ → Bool
below_zero z = int_lt z (pos 0)

-- one value more
pub value_more : {X : Type 0} (value : X → ℤ) (xs : List X) (i : ℕ) (x : X) (found below : Bool) → i < length xs → x ≡ get_or xs i x → below ≡ below_zero (value x) → found ≡ list_any below_zero (take i (map value xs)) → (found || below) ≡ list_any below_zero (take (i + 1) (map value xs))
value_more value xs i x found below h read is so =
    let same : get_or (map value xs) i (value x) ≡ value x = get_or-map value xs i x (value x) h ∙ ap value (sym read) in
    rw (list_any_more below_zero (map value xs) i (value x) (omega (arith, length-map xs value)), so, is, same) refl

none_at : {A : Type 0} (p : A → Bool) (xs : List A) (i : ℕ) (d : A) → i < length xs → list_any p xs ≡ false → p (get_or xs i d) ≡ false
none_at p xs i d h none = elim (cases_Bool (p (get_or xs i d))) [
  | inl here ↦ absurd (true≢false (sym (any_at p xs i d h here) ∙ none))
  | inr there ↦ there
]

item_not_below : {X : Type 0} (value : X → ℤ) (v : Validity) (xs : List X) (i : ℕ) → IsTrue (covers v (length xs)) → i < length xs → below_zero (get_or (map value xs) i (pos 0)) ≡ false → is_negative (get_or (items_of v (map value xs)) i None) ≡ false
item_not_below value v [] i covered h low = absurd (omega arith)
item_not_below value v (x ∷ xs) i covered h low =
    let read : get_or (x ∷ xs) i x ≡ get_or (x ∷ xs) i (get_or (x ∷ xs) i x) = get_or_default (x ∷ xs) i x (get_or (x ∷ xs) i x) h in
    let same : get_or (map value (x ∷ xs)) i (pos 0) ≡ value (get_or (x ∷ xs) i x) = get_or-map value (x ∷ xs) i x (pos 0) h in
    sym (negative_item value v (x ∷ xs) i (get_or (x ∷ xs) i x) false (is_valid_at v i) covered h read (sym (rw same at low)) refl)

-- a place of a block
block_read : {A : Type 0} (xs : List A) (j i : ℕ) (d : A) → i < 1024 → get_or (between (1024 * j) (1024 * (j + 1)) xs) i d ≡ get_or xs (1024 * j + i) d
block_read xs j i d h = get_or-take (1024 * (j + 1) - 1024 * j) (drop (1024 * j) xs) i d (omega arith) ∙ get_or-drop (1024 * j) xs i d

block_few : {A : Type 0} (xs : List A) (j : ℕ) → length (between (1024 * j) (1024 * (j + 1)) xs) ≡ min 1024 (length xs - 1024 * j)
block_few xs j = omega (arith, length-take (1024 * (j + 1) - 1024 * j) (drop (1024 * j) xs), length-drop (1024 * j) xs)

-- a block whose items are not negative, one by one
pub none_in_block : {X : Type 0} (value : X → ℤ) (v : Validity) (xs : List X) (j start end : ℕ) → IsTrue (covers v (length xs)) → start ≡ 1024 * j → end ≡ min (1024 * (j + 1)) (length xs)
    → ((k : ℕ) → start ≤ k → k < end → is_negative (get_or (items_of v (map value xs)) k None) ≡ false) → list_any is_negative (between (1024 * j) (1024 * (j + 1)) (items_of v (map value xs))) ≡ false
none_in_block value v xs j start end covered from to none =
    let items : List (Option ℤ) = items_of v (map value xs) in
    let count : length items ≡ length xs = covered_values value v xs covered in
    let few = block_few items j in
    any_from is_negative (between (1024 * j) (1024 * (j + 1)) items) None (λ i h. ap is_negative (block_read items j i None (omega arith)) ∙ none (1024 * j + i) (omega arith) (omega arith))

-- the same, by the values
pub no_value_below : {X : Type 0} (value : X → ℤ) (v : Validity) (xs : List X) (j start end : ℕ) → IsTrue (covers v (length xs)) → start ≡ 1024 * j → end ≡ min (1024 * (j + 1)) (length xs)
    → list_any below_zero (map value (take (end - start) (drop start xs))) ≡ false → list_any is_negative (between (1024 * j) (1024 * (j + 1)) (items_of v (map value xs))) ≡ false
no_value_below value v xs j start end covered from to none =
    none_in_block value v xs j start end covered from to (λ k low high.
    let part = take (end - start) (drop start xs) in
    let long : length (map value part) ≡ end - start = omega (arith, length-map part value, length-take (end - start) (drop start xs), length-drop start xs) in
    let at : start + (k - start) ≡ k = omega arith in
    let read = read_part value xs start (end - start) (k - start) (omega arith) in
    let here : below_zero (get_or (map value part) (k - start) (pos 0)) ≡ false = none_at below_zero (map value part) (k - start) (pos 0) (omega arith) none in
    item_not_below value v xs k covered (omega arith) (rw (read, at) at here))

-- an item of a block that is
pub one_in_block : (items : List (Option ℤ)) (j k : ℕ) → 1024 * j ≤ k → k < 1024 * (j + 1) → k < length items → is_negative (get_or items k None) ≡ true → list_any is_negative (between (1024 * j) (1024 * (j + 1)) items) ≡ true
one_in_block items j k low high h here =
    let few = block_few items j in
    let at : 1024 * j + (k - 1024 * j) ≡ k = omega arith in
    any_at is_negative (between (1024 * j) (1024 * (j + 1)) items) (k - 1024 * j) None (omega arith) (ap is_negative (block_read items j (k - 1024 * j) None (omega arith) ∙ ap (λ n. get_or items n None) at) ∙ here)
