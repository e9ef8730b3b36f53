-- Tests of all items, and lists that a loop makes step by step.
use Rattle.std.proofs.Common.{◌≡◌, ℕ, zero, suc, ◌+◌, ◌-◌, ◌<◌, ◌&&◌, ◌||◌, Bool, true, false, List, [], ◌∷◌, ◌++◌, length, map, take, drop, get_or, not, refl, ap, ◌∙◌, arith}
use Rattle.std.proofs.lemmas.List.{length-drop, take_more, get_or-drop, map-append}
use Rattle.std.specs.List.{list_all, list_any, flat_map}
use Rattle.fl_types.specs.Bits.{between}
use Rattle.fl_column.specs.Operations.{kept}

pub and_false : (b : Bool) {c : Bool} → c ≡ false → (b && c) ≡ false
and_false true e = e
and_false false e = refl

pub and_true : (b c : Bool) → b ≡ true → c ≡ true → (b && c) ≡ true
and_true b c e f = rw (e, f) refl

pub and_first : (b c : Bool) → (b && c) ≡ true → b ≡ true
and_first true c e = refl
and_first false c e = cc

pub and_second : (b c : Bool) → (b && c) ≡ true → c ≡ true
and_second true c e = e
and_second false c e = cc

and_assoc : (a b c : Bool) {d : Bool} → d ≡ (b && c) → (a && d) ≡ (a && b && c)
and_assoc true b c e = e
and_assoc false b c e = refl

-- a test of two parts
pub list_all-append : {A : Type 0} (p : A → Bool) (xs ys : List A) → list_all p (xs ++ ys) ≡ (list_all p xs && list_all p ys)
list_all-append p [] ys = refl
list_all-append p (x ∷ xs) ys = and_assoc (p x) (list_all p xs) (list_all p ys) (list_all-append p xs ys)

pub all_first : {A : Type 0} (p : A → Bool) (xs : List A) (n : ℕ) → list_all p xs ≡ true → list_all p (take n xs) ≡ true
all_first p xs zero e = refl
all_first p [] (suc n) e = refl
all_first p (x ∷ xs) (suc n) e = and_true (p x) (list_all p (take n xs)) (and_first (p x) (list_all p xs) e) (all_first p xs n (and_second (p x) (list_all p xs) e))

pub all_rest : {A : Type 0} (p : A → Bool) (xs : List A) (n : ℕ) → list_all p xs ≡ true → list_all p (drop n xs) ≡ true
all_rest p xs zero e = e
all_rest p [] (suc n) e = refl
all_rest p (x ∷ xs) (suc n) e = all_rest p xs n (and_second (p x) (list_all p xs) e)

-- what holds of each item
pub all_at : {A : Type 0} (p : A → Bool) (xs : List A) (i : ℕ) (d : A) → list_all p xs ≡ true → i < length xs → p (get_or xs i d) ≡ true
all_at p [] i d e h = absurd (omega arith)
all_at p (x ∷ xs) zero d e h = and_first (p x) (list_all p xs) e
all_at p (x ∷ xs) (suc i) d e h = all_at p xs i d (and_second (p x) (list_all p xs) e) (omega arith)

-- an item that fails
pub all_fails : {A : Type 0} (p : A → Bool) (xs : List A) (i : ℕ) (d : A) → i < length xs → p (get_or xs i d) ≡ false → list_all p xs ≡ false
all_fails p [] i d h e = absurd (omega arith)
all_fails p (x ∷ xs) zero d h e = rw e refl
all_fails p (x ∷ xs) (suc i) d h e = and_false (p x) (all_fails p xs i d (omega arith) e)

-- one more item that passes
pub all_more : {A : Type 0} (p : A → Bool) (xs : List A) (i : ℕ) (d : A) → i < length xs → list_all p (take i xs) ≡ true → p (get_or xs i d) ≡ true → list_all p (take (i + 1) xs) ≡ true
all_more p [] i d h e f = absurd (omega arith)
all_more p (x ∷ xs) zero d h e f = rw f refl
all_more p (x ∷ xs) (suc i) d h e f =
    let step : suc i + 1 ≡ suc (i + 1) = omega arith in
    rw step (and_true (p x) (list_all p (take (i + 1) xs)) (and_first (p x) (list_all p (take i xs)) e) (all_more p xs i d (omega arith) (and_second (p x) (list_all p (take i xs)) e) f))

-- what passes everywhere
pub all_from : {A : Type 0} (p : A → Bool) (xs : List A) (d : A) → ((i : ℕ) → i < length xs → p (get_or xs i d) ≡ true) → list_all p xs ≡ true
all_from p [] d h = refl
all_from p (x ∷ xs) d h = and_true (p x) (list_all p xs) (h 0 (omega arith)) (all_from p xs d (λ i k. h (suc i) (omega arith)))

or_false : (b c : Bool) → b ≡ false → c ≡ false → (b || c) ≡ false
or_false b c e f = rw (e, f) refl

or_true : (b : Bool) {c : Bool} → c ≡ true → (b || c) ≡ true
or_true true e = refl
or_true false e = e

-- an item that passes
pub any_at : {A : Type 0} (p : A → Bool) (xs : List A) (i : ℕ) (d : A) → i < length xs → p (get_or xs i d) ≡ true → list_any p xs ≡ true
any_at p [] i d h e = absurd (omega arith)
any_at p (x ∷ xs) zero d h e = rw e refl
any_at p (x ∷ xs) (suc i) d h e = or_true (p x) (any_at p xs i d (omega arith) e)

-- no item that passes
pub any_from : {A : Type 0} (p : A → Bool) (xs : List A) (d : A) → ((i : ℕ) → i < length xs → p (get_or xs i d) ≡ false) → list_any p xs ≡ false
any_from p [] d h = refl
any_from p (x ∷ xs) d h = or_false (p x) (list_any p xs) (h 0 (omega arith)) (any_from p xs d (λ i k. h (suc i) (omega arith)))

-- one more item through a mask
pub kept_yes : {A : Type 0} (bits : List Bool) (xs : List A) (i : ℕ) (d : A) → i < length bits → i < length xs → get_or bits i false ≡ true
    → kept (take (i + 1) bits) (take (i + 1) xs) ≡ kept (take i bits) (take i xs) ++ get_or xs i d ∷ []
kept_yes [] xs i d h k e = absurd (omega arith)
kept_yes (b ∷ bits) [] i d h k e = absurd (omega arith)
kept_yes (b ∷ bits) (x ∷ xs) zero d h k e = rw e refl
kept_yes (true ∷ bits) (x ∷ xs) (suc i) d h k e = let step : suc i + 1 ≡ suc (i + 1) = omega arith in rw step (ap (λ ys. x ∷ ys) (kept_yes bits xs i d (omega arith) (omega arith) e))
kept_yes (false ∷ bits) (x ∷ xs) (suc i) d h k e = let step : suc i + 1 ≡ suc (i + 1) = omega arith in rw step (kept_yes bits xs i d (omega arith) (omega arith) e)

pub kept_no : {A : Type 0} (bits : List Bool) (xs : List A) (i : ℕ) → i < length bits → i < length xs → get_or bits i false ≡ false
    → kept (take (i + 1) bits) (take (i + 1) xs) ≡ kept (take i bits) (take i xs)
kept_no [] xs i h k e = absurd (omega arith)
kept_no (b ∷ bits) [] i h k e = absurd (omega arith)
kept_no (b ∷ bits) (x ∷ xs) zero h k e = rw e refl
kept_no (true ∷ bits) (x ∷ xs) (suc i) h k e = let step : suc i + 1 ≡ suc (i + 1) = omega arith in rw step (ap (λ ys. x ∷ ys) (kept_no bits xs i (omega arith) (omega arith) e))
kept_no (false ∷ bits) (x ∷ xs) (suc i) h k e = let step : suc i + 1 ≡ suc (i + 1) = omega arith in rw step (kept_no bits xs i (omega arith) (omega arith) e)

-- what holds of all items holds of those that are kept
pub all_kept : {A : Type 0} (p : A → Bool) (bits : List Bool) (xs : List A) → list_all p xs ≡ true → list_all p (kept bits xs) ≡ true
all_kept p [] xs e = refl
all_kept p (b ∷ bits) [] e = refl
all_kept p (true ∷ bits) (x ∷ xs) e = and_true (p x) (list_all p (kept bits xs)) (and_first (p x) (list_all p xs) e) (all_kept p bits xs (and_second (p x) (list_all p xs) e))
all_kept p (false ∷ bits) (x ∷ xs) e = all_kept p bits xs (and_second (p x) (list_all p xs) e)

-- one more item of a part
pub between_more : {A : Type 0} (xs : List A) (start k : ℕ) (d : A) → start + k < length xs → between start (start + (k + 1)) xs ≡ between start (start + k) xs ++ get_or xs (start + k) d ∷ []
between_more xs start k d h =
    let longer : start + (k + 1) - start ≡ k + 1 = omega arith in
    let shorter : start + k - start ≡ k = omega arith in
    let within : k < length (drop start xs) = omega (arith, length-drop start xs) in
    rw (longer, shorter) (take_more (drop start xs) k d within ∙ ap (λ x. take k (drop start xs) ++ x ∷ []) (get_or-drop start xs k d))

-- nothing of a part
pub between_none : {A : Type 0} (xs : List A) (start : ℕ) → between start (start + 0) xs ≡ []
between_none xs start = let none : start + 0 - start ≡ 0 = omega arith in rw none refl

-- what holds of all items holds of those of ranges
pub all_part : {A : Type 0} (p : A → Bool) (xs : List A) (start end : ℕ) → list_all p xs ≡ true → list_all p (between start end xs) ≡ true
all_part p xs start end e = all_first p (drop start xs) (end - start) (all_rest p xs start e)

pub all_ranges : {A : Type 0} (p : A → Bool) (xs : List A) (ranges : List (ℕ × ℕ)) → list_all p xs ≡ true → list_all p (flat_map (λ range. between range.0 (range.0 + range.1) xs) ranges) ≡ true
all_ranges p xs [] e = refl
all_ranges p xs (range ∷ ranges) e = list_all-append p (between range.0 (range.0 + range.1) xs) _ ∙ and_true _ _ (all_part p xs range.0 (range.0 + range.1) e) (all_ranges p xs ranges e)

pub not_false : (b : Bool) → not b ≡ false → b ≡ true
not_false true e = refl
not_false false e = cc

-- one more item that passes, as a loop reads it
pub all_mapped_more : {A B : Type 0} (p : B → Bool) (f : A → B) (xs : List A) (i : ℕ) (x : A) → i < length xs → x ≡ get_or xs i x → list_all p (map f (take i xs)) ≡ true → p (f x) ≡ true → list_all p (map f (take (i + 1) xs)) ≡ true
all_mapped_more p f xs i x h e all here =
    rw (take_more xs i x h, map-append, ← e) (list_all-append p (map f (take i xs)) (f x ∷ []) ∙ and_true _ _ all (and_true (p (f x)) true here refl))
