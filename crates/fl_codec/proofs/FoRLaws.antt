-- Least items, and the references of chunks.
use Rattle.std.proofs.Common.{◌≡◌, ℕ, ℤ, zero, suc, ◌+◌, ◌-◌, ◌<◌, ◌≤◌, ◌&&◌, subst, lit<, length-append, if◌then◌else◌, Bool, true, false, List, [], ◌∷◌, ◌++◌, length, get_or, Option, Some, None, refl, ap, sym, ◌∙◌, arith, int_le, int_lt, find}
use Rattle.std.specs.List.{list_all}
use Rattle.std.proofs.lemmas.Int.{ints}
use Rattle.std.proofs.lemmas.List.Elements.{filter_map-append}
use Rattle.std.proofs.lemmas.Bool.{true≢false}
use Rattle.std.proofs.lemmas.List.{append-nil, get_or_push, get_or_append_left}
use Rattle.fl_types.specs.Bits.{between}
use Rattle.fl_column.proofs.ListLaws.{all_at, and_first, and_second, and_true, between_more, list_all-append}
use Rattle.fl_codec.specs.FoRColumns.{min_valid, valid_items}

pub int_le-refl : (z : ℤ) → int_le z z ≡ true
int_le-refl z = grind (arith, ints)

int_le-trans : (x y z : ℤ) → int_le x y ≡ true → int_le y z ≡ true → int_le x z ≡ true
int_le-trans x y z e f = grind (arith, ints)

int_le-antisym : (x y : ℤ) → int_le x y ≡ true → int_le y x ≡ true → x ≡ y
int_le-antisym x y e f = grind (arith, ints)

pub below : (x y : ℤ) → int_lt y x ≡ true → int_le y x ≡ true
below x y e = grind (arith, ints)

pub not_below : (x y : ℤ) → int_lt y x ≡ false → int_le x y ≡ true
not_below x y e = grind (arith, ints)

-- ---- the least of a list
-- this is the least integer of the list, if it has one
abbrev pub IsLeast : Option ℤ → List ℤ → Type 0
IsLeast None zs = zs ≡ []
IsLeast (Some m) zs = ((i : ℕ) × ((i < length zs) × (get_or zs i m ≡ m))) × (list_all (int_le m) zs ≡ true)

-- the first of a list, and what is found behind it
found : (p : ℤ → Bool) (z : ℤ) (zs : List ℤ) (m : ℤ) (b : Bool) → p z ≡ b → (b ≡ true → z ≡ m) → (b ≡ false → find p zs ≡ Some m) → find p (z ∷ zs) ≡ Some m
found p z zs m true e here behind = rw e (ap Some (here refl))
found p z zs m false e here behind = rw e (behind refl)

-- where each integer that passes is m, the first that passes is m
find_only : (p : ℤ → Bool) (zs : List ℤ) (m : ℤ) (i : ℕ) → i < length zs → get_or zs i m ≡ m → p m ≡ true → ((k : ℕ) → k < length zs → p (get_or zs k m) ≡ true → get_or zs k m ≡ m) → find p zs ≡ Some m
find_only p [] m i h e passes only = absurd (omega arith)
find_only p (z ∷ zs) m zero h e passes only = found p z zs m (p z) refl (λ _. e) (λ fails. absurd (true≢false (sym passes ∙ (ap p (sym e) ∙ fails))))
find_only p (z ∷ zs) m (suc i) h e passes only = found p z zs m (p z) refl (only 0 (omega arith)) (λ _. find_only p zs m i (omega arith) e passes (λ k l. only (suc k) (omega arith)))

pub find-least : (best : Option ℤ) (zs : List ℤ) → IsLeast best zs → find (λ z. list_all (int_le z) zs) zs ≡ best
find-least None zs e = rw e refl
find-least (Some m) zs least =
    find_only (λ z. list_all (int_le z) zs) zs m least.0.0 least.0.1.0 least.0.1.1 least.1
    (λ k h all. int_le-antisym (get_or zs k m) m (subst (λ x. int_le (get_or zs k m) x ≡ true) least.0.1.1 (all_at (int_le (get_or zs k m)) zs least.0.0 m all least.0.1.0)) (all_at (int_le m) zs k m least.1 h))

pub all_above_less : (x m : ℤ) (zs : List ℤ) → int_le x m ≡ true → list_all (int_le m) zs ≡ true → list_all (int_le x) zs ≡ true
all_above_less x m [] e all = refl
all_above_less x m (z ∷ zs) e all = and_true (int_le x z) (list_all (int_le x) zs) (int_le-trans x m z e (and_first (int_le m z) (list_all (int_le m) zs) all)) (all_above_less x m zs e (and_second (int_le m z) (list_all (int_le m) zs) all))

all_push : (m z : ℤ) (zs : List ℤ) → list_all (int_le m) zs ≡ true → int_le m z ≡ true → list_all (int_le m) (zs ++ z ∷ []) ≡ true
all_push m z zs all e = list_all-append (int_le m) zs (z ∷ []) ∙ and_true (list_all (int_le m) zs) (int_le m z && true) all (and_true (int_le m z) true e refl)

least_of_two : (m z : ℤ) (zs : List ℤ) (b : Bool) → int_lt z m ≡ b → IsLeast (Some m) zs → IsLeast (Some (if b then z else m)) (zs ++ z ∷ [])
least_of_two m z zs true e least =
    let last = get_or_push zs z z (length zs) refl in
    ((length zs, (rw length-append (omega arith), last)), all_push z z zs (all_above_less z m zs (below m z e) least.1) (int_le-refl z))
least_of_two m z zs false e least =
    ((least.0.0, (rw length-append (let h = least.0.1.0 in omega arith), get_or_append_left zs (z ∷ []) m least.0.0 least.0.1.0 ∙ least.0.1.1)), all_push m z zs least.1 (not_below m z e))

pub least_push : (best : Option ℤ) (zs : List ℤ) (z : ℤ) → IsLeast best zs → IsLeast (min_valid best (Some z)) (zs ++ z ∷ [])
least_push None zs z e = rw e ((0, (lit< tt, refl)), and_true (int_le z z) true (int_le-refl z) refl)
least_push (Some m) zs z least = least_of_two m z zs (int_lt z m) refl least

min_valid-none : (best : Option ℤ) → min_valid best None ≡ best
min_valid-none None = refl
min_valid-none (Some m) = refl

-- one more item
pub least_more : (best : Option ℤ) (xs : List (Option ℤ)) (x : Option ℤ) → IsLeast best (valid_items xs) → IsLeast (min_valid best x) (valid_items (xs ++ x ∷ []))
least_more best xs None least = rw (filter_map-append (λ (item : Option ℤ). item) xs (None ∷ []), append-nil, min_valid-none) least
least_more best xs (Some z) least = rw (filter_map-append (λ (item : Option ℤ). item) xs (Some z ∷ [])) (least_push best (valid_items xs) z least)

-- the same, of a list that a loop has read up to item i
pub least_between_more : (best : Option ℤ) (xs : List (Option ℤ)) (start i : ℕ) → start ≤ i → i < length xs → IsLeast best (valid_items (between start i xs)) → IsLeast (min_valid best (get_or xs i None)) (valid_items (between start (i + 1) xs))
least_between_more best xs start i order within least =
    let here : start + (i - start) ≡ i = omega arith in
    let next : start + (i - start + 1) ≡ i + 1 = omega arith in
    let inside : start + (i - start) < length xs = omega arith in
    let more = between_more xs start (i - start) None inside in
    let one : between start (i + 1) xs ≡ between start i xs ++ get_or xs i None ∷ [] = rw (here, next) at more in
    rw one (least_more best (between start i xs) (get_or xs i None) least)

-- no items yet
pub valid_none : (start : ℕ) (xs : List (Option ℤ)) → valid_items (between start start xs) ≡ []
valid_none start xs = let none : start - start ≡ 0 = omega arith in rw none refl
