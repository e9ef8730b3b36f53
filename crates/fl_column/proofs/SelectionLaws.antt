-- The columns that selections make.
use Rattle.std.proofs.Common.{◌≡◌, ◌&&◌, ℕ, ℤ, zero, suc, ◌+◌, ◌<◌, ◌≤◌, ◌||◌, Bool, true, false, List, [], ◌∷◌, length, map, take, get_or, replicate, Option, Some, None, option_map, is_some, IsTrue, unsigned_abs, pos, negsuc, int_le, sum_by, Ok, Err, if◌then◌else◌, ◌^◌, refl, ap, sym, ◌∙◌, arith, nat_lt}
use Rattle.std.specs.List.{list_all}
use Rattle.fl_types.specs.Validities.{masked, items_of, nullability_of}
use Rattle.fl_types.specs.Integers.{fits}
use Rattle.fl_column.specs.Columns.{PrimitiveParts, column_of_primitive, is_column, option_all}
use Rattle.fl_column.specs.Operations.{is_in_range, item_named, kept, range_fits, total_of}
use Rattle.fl_column.specs.Selections.{are_below_length, is_below_length, items_at, positions_in}
use Rattle.std.proofs.lemmas.List.{take_all}
use Rattle.std.proofs.lemmas.Bool.Decides.{nat_tests, Decides-ltb}
use Rattle.fl_types.specs.Types.{can_be_null, either_nullable}
use Rattle.fl_types.specs.declared.dtype.Nullability.{Nullability}
use Rattle.fl_types.specs.declared.validity.Validity.{Validity}
use Rattle.fl_types.specs.declared.validity.Validity.TheVariants as valid
use Rattle.std.proofs.lemmas.List.Sums.{sum_by_more, sum_by_more_le}
use Rattle.std.proofs.lemmas.Bool.{le-ltb, lt-ltb}
use Rattle.fl_types.specs.declared.error.FastLanesError.TheVariants.{IndexOutOfBounds}
use Rattle.fl_column.proofs.ListLaws.{and_true, and_first, and_second}

all_some : {A : Type 0} (xs : List A) → list_all is_some (map (λ x. Some x) xs) ≡ true
all_some [] = refl
all_some (x ∷ xs) = all_some xs

-- a selection has no null where none may stand, if the array's items give it none
pub stands : {A : Type 0} (v : Validity) (xs : List A) (n : Nullability) (ys : List (Option A)) → n ≡ nullability_of v → (list_all is_some (items_of v xs) ≡ true → list_all is_some ys ≡ true) → IsTrue (can_be_null n || list_all is_some ys)
stands valid.NonNullable xs n ys e h = rw e (h (all_some xs))
stands valid.AllValid xs n ys e h = rw e refl
stands valid.AllInvalid xs n ys e h = rw e refl
stands (valid.Array bits) xs n ys e h = rw e refl

-- a range that fits reaches no further than the items
pub range_within : (len start count k : ℕ) → IsTrue (range_fits len (start, count)) → k < count → start + k < len
range_within len start count k fits h = grind (arith, nat_tests)

-- the positions of all indices
pub all_positions : (len : ℕ) (indices : List (Option ℤ)) (positions : List (Option ℕ)) (i : ℕ) → length indices ≤ i → list_all (is_in_range len) (take i indices) ≡ true
    → positions ≡ map (option_map unsigned_abs) (take i indices) → positions_in len indices ≡ Ok positions
all_positions len indices positions i full range is =
    let all : take i indices ≡ indices = take_all i indices full in
    let each : list_all (is_in_range len) indices ≡ true = rw all at range in
    rw (each, is, all) refl

-- the total of all ranges
pub total_is : (ranges : List (ℕ × ℕ)) (i total : ℕ) → length ranges ≤ i → total ≡ sum_by (λ range. range.1) (take i ranges) → total < 2 ^ 64 → Some total ≡ total_of ranges
total_is ranges i total full is fits =
    let all : take i ranges ≡ ranges = take_all i ranges full in
    let same : total ≡ sum_by (λ range. range.1) ranges = rw all at is in
    let small : nat_lt total (2 ^ 64) ≡ true = lt-ltb total (2 ^ 64) fits in
    rw (← same, small) refl

-- the total of one more range
pub total_next : (ranges : List (ℕ × ℕ)) (i total next : ℕ) → i < length ranges → total ≡ sum_by (λ range. range.1) (take i ranges) → next ≡ total + (get_or ranges i (0, 0)).1 → next ≡ sum_by (λ range. range.1) (take (i + 1) ranges)
total_next ranges i total next inside is sum = sum ∙ (ap (λ n. n + (get_or ranges i (0, 0)).1) is ∙ sym (sum_by_more (λ range. range.1) ranges i (0, 0) inside))

-- a total that no `usize` holds
pub total_over : (ranges : List (ℕ × ℕ)) (i total : ℕ) (r : Option ℕ) → i < length ranges → total ≡ sum_by (λ range. range.1) (take i ranges) → (total + (get_or ranges i (0, 0)).1 < 2 ^ 64 → ⊥) → r ≡ None → r ≡ total_of ranges
total_over ranges i total r inside is over none =
    let least = sum_by_more_le (λ range. range.1) ranges i (0, 0) inside in
    let large : nat_lt (sum_by (λ range. range.1) ranges) (2 ^ 64) ≡ false = le-ltb (sum_by (λ range. range.1) ranges) (2 ^ 64) (omega (arith, over)) in
    rw (none, large) refl

-- an answer of a test that is Ok
if_ok : {A E : Type 0} (b : Bool) (x y : A) (e : E) → (if b then Ok x else Err e) ≡ Ok y → (b ≡ true) × (x ≡ y)
if_ok true x y e h = (refl, cc)
if_ok false x y e h = cc

pub ok_positions : (len : ℕ) (indices : List (Option ℤ)) (positions : List (Option ℕ)) → positions_in len indices ≡ Ok positions → (list_all (is_in_range len) indices ≡ true) × (map (option_map unsigned_abs) indices ≡ positions)
ok_positions len indices positions h = if_ok (list_all (is_in_range len) indices) (map (option_map unsigned_abs) indices) positions IndexOutOfBounds h

one_below : (len : ℕ) (index : Option ℤ) → is_in_range len index ≡ true → is_below_length len (option_map unsigned_abs index) ≡ true
one_below len None h = refl
one_below len (Some (pos n)) h = and_second (int_le (pos 0) (pos n)) (nat_lt n len) h
one_below len (Some (negsuc n)) h = cc

-- the positions of indices in range are below the length
pub taken_below : (len : ℕ) (indices : List (Option ℤ)) → list_all (is_in_range len) indices ≡ true → IsTrue (are_below_length len (map (option_map unsigned_abs) indices))
taken_below len [] h = refl
taken_below len (x ∷ indices) h = and_true (is_below_length len (option_map unsigned_abs x)) (are_below_length len (map (option_map unsigned_abs) indices)) (one_below len x (and_first _ (list_all (is_in_range len) indices) h)) (taken_below len indices (and_second (is_in_range len x) _ h))

some_at : (xs : List ℤ) (i : ℕ) → nat_lt i (length (map (λ z. Some z) xs)) ≡ true → is_some (get_or (map (λ z. Some z) xs) i None) ≡ true
some_at [] i h = let none : i < 0 = (Decides-ltb i 0).0 h in absurd (omega arith)
some_at (x ∷ xs) zero h = refl
some_at (x ∷ xs) (suc i) h = let below : suc i < suc (length (map (λ z. Some z) xs)) = (Decides-ltb (suc i) (suc (length (map (λ z. Some z) xs)))).0 h in some_at xs i (lt-ltb i _ (omega arith))

some_taken : (xs ys : List ℤ) → list_all (is_below_length (length (map (λ z. Some z) xs))) (map (option_map unsigned_abs) (map (λ z. Some z) ys)) ≡ true → list_all is_some (items_at (map (λ z. Some z) xs) (map (option_map unsigned_abs) (map (λ z. Some z) ys))) ≡ true
some_taken xs [] h = refl
some_taken xs (y ∷ ys) h = and_true _ _ (some_at xs (unsigned_abs y) (and_first _ (list_all (is_below_length (length (map (λ z. Some z) xs))) (map (option_map unsigned_abs) (map (λ z. Some z) ys))) h)) (some_taken xs ys (and_second (nat_lt (unsigned_abs y) (length (map (λ z. Some z) xs))) _ h))

-- a take has no null where neither the array nor the indices may have one
pub taken_stands : (v w : Validity) (xs ys : List ℤ) (n : Nullability) → n ≡ either_nullable (nullability_of v) (nullability_of w) → IsTrue (are_below_length (length (items_of v xs)) (map (option_map unsigned_abs) (items_of w ys)))
    → IsTrue (can_be_null n || list_all is_some (items_at (items_of v xs) (map (option_map unsigned_abs) (items_of w ys))))
taken_stands valid.NonNullable valid.NonNullable xs ys n e h = rw e (some_taken xs ys h)
taken_stands valid.NonNullable valid.AllValid xs ys n e h = rw e refl
taken_stands valid.NonNullable valid.AllInvalid xs ys n e h = rw e refl
taken_stands valid.NonNullable (valid.Array bits) xs ys n e h = rw e refl
taken_stands valid.AllValid w xs ys n e h = rw e refl
taken_stands valid.AllInvalid w xs ys n e h = rw e refl
taken_stands (valid.Array bits) w xs ys n e h = rw e refl

-- the items at the positions are those that the indices name
pub taken_named : (items : List (Option ℤ)) (indices : List (Option ℤ)) → items_at items (map (option_map unsigned_abs) indices) ≡ map (item_named items) indices
taken_named items [] = refl
taken_named items (None ∷ indices) = ap (λ xs. None ∷ xs) (taken_named items indices)
taken_named items (Some z ∷ indices) = ap (λ xs. get_or items (unsigned_abs z) None ∷ xs) (taken_named items indices)

-- a mask that keeps all, and one that keeps none
pub kept_all : {A : Type 0} (n : ℕ) (xs : List A) → n ≡ length xs → kept (replicate n true) xs ≡ xs
kept_all zero [] e = refl
kept_all zero (x ∷ xs) e = absurd (omega arith)
kept_all (suc n) [] e = refl
kept_all (suc n) (x ∷ xs) e = ap (λ ys. x ∷ ys) (kept_all n xs (omega arith))

pub kept_none : {A : Type 0} (n : ℕ) (xs : List A) → kept (replicate n false) xs ≡ []
kept_none zero xs = refl
kept_none (suc n) [] = refl
kept_none (suc n) (x ∷ xs) = kept_none n xs

masked_fit : {A : Type 0} (p : A → Bool) (bits : List Bool) (xs : List A) → list_all p xs ≡ true → list_all (option_all p) (masked bits xs) ≡ true
masked_fit p [] xs fit = refl
masked_fit p (bit ∷ bits) [] fit = refl
masked_fit p (true ∷ bits) (x ∷ xs) fit = and_true (p x) (list_all (option_all p) (masked bits xs)) (and_first (p x) (list_all p xs) fit) (masked_fit p bits xs (and_second (p x) (list_all p xs) fit))
masked_fit p (false ∷ bits) (x ∷ xs) fit = masked_fit p bits xs (and_second (p x) (list_all p xs) fit)

valid_fit : {A : Type 0} (p : A → Bool) (xs : List A) → list_all (option_all p) (map (λ x. Some x) xs) ≡ list_all p xs
valid_fit p [] = refl
valid_fit p (x ∷ xs) = ap (λ b. p x && b) (valid_fit p xs)

null_fit : {A : Type 0} (p : A → Bool) (xs : List A) → list_all (option_all p) (items_of valid.AllInvalid xs) ≡ true
null_fit p [] = refl
null_fit p (x ∷ xs) = null_fit p xs

-- what holds of all slots holds of the items
pub items_fit : {A : Type 0} (p : A → Bool) (v : Validity) (xs : List A) → list_all p xs ≡ true → list_all (option_all p) (items_of v xs) ≡ true
items_fit p valid.NonNullable xs fit = valid_fit p xs ∙ fit
items_fit p valid.AllValid xs fit = valid_fit p xs ∙ fit
items_fit p valid.AllInvalid xs fit = null_fit p xs
items_fit p (valid.Array bits) xs fit = masked_fit p bits xs fit

-- what a plain array stands for is a column
pub plain_is_column : (p : PrimitiveParts) → list_all (fits p.ptype) p.slots ≡ true → IsTrue (is_column (column_of_primitive p))
plain_is_column p fit = and_true (list_all (option_all (fits p.ptype)) (items_of p.validity p.slots)) (can_be_null (nullability_of p.validity) || list_all is_some (items_of p.validity p.slots)) (items_fit (fits p.ptype) p.validity p.slots fit) (stands p.validity p.slots (nullability_of p.validity) (items_of p.validity p.slots) refl (λ all. all))
