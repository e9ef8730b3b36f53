-- Rising numbers: where one stands among them, and how many are below it.
use Rattle.std.proofs.Common.{◌≡◌, ◌≢◌, ℕ, Option, Some, None, option_map, eqb, ℤ, zero, suc, ◌+◌, ◌<◌, ◌≤◌, true, false, List, [], ◌∷◌, length, map, get_or, cond, nat_lt, unsigned_abs, refl, ap, ◌∙◌, arith, inl, inr, ◌⊎◌}
use Rattle.std.proofs.lemmas.Bool.{ltb-true, lt-ltb, le-ltb, ltb-false, cases_lt, cases_Bool, eq-eqb, eqb-true, ne_eqb}
use Rattle.std.proofs.lemmas.List.{length-map, get_or-map}
use Rattle.std.proofs.lemmas.List.Sums.{sum_by-cons, count_by-le-length}
use Rattle.fl_column.proofs.ListLaws.{and_first, and_second}
use Rattle.fl_column.specs.Numbers.{numbers_by}
use Rattle.fl_patches.specs.PatchMaps.{count_below, is_rising, rank_of}

pub count-cons : (limit x : ℕ) (xs : List ℕ) → count_below limit (x ∷ xs) ≡ cond (nat_lt x limit) 1 0 + count_below limit xs
count-cons limit x xs = sum_by-cons (λ index. cond (nat_lt index limit) 1 0) x xs

-- the count is the place where numbers that are below end
pub count_split : (xs : List ℕ) (limit k : ℕ) → k ≤ length xs → ((i : ℕ) → i < k → get_or xs i 0 < limit) → ((i : ℕ) → k ≤ i → i < length xs → limit ≤ get_or xs i 0) → count_below limit xs ≡ k
count_split [] limit k room below above = omega arith
count_split (x ∷ xs) limit zero room below above =
    let rest = count_split xs limit 0 (omega arith) (λ i h. absurd (omega arith)) (λ i h k. above (suc i) (omega arith) (omega arith)) in
    count-cons limit x xs ∙ (rw (le-ltb x limit (above 0 (omega arith) (omega arith)), rest) refl)
count_split (x ∷ xs) limit (suc k) room below above =
    let rest = count_split xs limit k (omega arith) (λ i h. below (suc i) (omega arith)) (λ i h l. above (suc i) (omega arith) (omega arith)) in
    count-cons limit x xs ∙ (rw (lt-ltb x limit (below 0 (omega arith)), rest) (omega arith))

pub rising_rest : (x : ℕ) (xs : List ℕ) → is_rising (x ∷ xs) ≡ true → is_rising xs ≡ true
rising_rest x [] rise = refl
rising_rest x (y ∷ xs) rise = and_second (nat_lt x y) (is_rising (y ∷ xs)) rise

-- each number is below all later ones
pub rising_above : (x : ℕ) (xs : List ℕ) (j : ℕ) → is_rising (x ∷ xs) ≡ true → j < length xs → x < get_or xs j 0
rising_above x [] j rise h = absurd (omega arith)
rising_above x (y ∷ xs) zero rise h = ltb-true x y (and_first (nat_lt x y) (is_rising (y ∷ xs)) rise)
rising_above x (y ∷ xs) (suc j) rise h =
    let first = ltb-true x y (and_first (nat_lt x y) (is_rising (y ∷ xs)) rise) in
    let later = rising_above y xs j (rising_rest x (y ∷ xs) rise) (omega arith) in
    omega arith

pub rising_at : (xs : List ℕ) (i j : ℕ) → is_rising xs ≡ true → i < j → j < length xs → get_or xs i 0 < get_or xs j 0
rising_at [] i j rise o h = absurd (omega arith)
rising_at (x ∷ xs) i zero rise o h = absurd (omega arith)
rising_at (x ∷ xs) zero (suc j) rise o h = rising_above x xs j rise (omega arith)
rising_at (x ∷ xs) (suc i) (suc j) rise o h = rising_at xs i j (rising_rest x xs rise) (omega arith) (omega arith)

pub rising_to : (xs : List ℕ) (i j : ℕ) → is_rising xs ≡ true → i ≤ j → j < length xs → get_or xs i 0 ≤ get_or xs j 0
rising_to xs i j rise o h = elim (cases_lt i j) [
  | inl below ↦ (let up = rising_at xs i j rise below h in omega arith)
  | inr above ↦ (let same : i ≡ j = omega arith in rw same (omega arith))
]

-- none of rising numbers is below what is not above the first
none_below : (x : ℕ) (xs : List ℕ) (limit : ℕ) → is_rising (x ∷ xs) ≡ true → limit ≤ x → count_below limit (x ∷ xs) ≡ 0
none_below x xs limit rise low = count_split (x ∷ xs) limit 0 (omega arith) (λ i h. absurd (omega arith)) (λ i h k. let up = rising_to (x ∷ xs) 0 i rise h k in omega arith)

pub count_within : (xs : List ℕ) (limit : ℕ) → count_below limit xs ≤ length xs
count_within xs limit = count_by-le-length (λ index. nat_lt index limit) xs

-- the numbers before the count are below, and the others are not
lt_after : (x : ℕ) (xs : List ℕ) (limit i : ℕ) → x < limit → ((j : ℕ) → j < count_below limit xs → get_or xs j 0 < limit) → i < 1 + count_below limit xs → get_or (x ∷ xs) i 0 < limit
lt_after x xs limit zero low rest h = low
lt_after x xs limit (suc i) low rest h = rest i (omega arith)

ge_after : (x : ℕ) (xs : List ℕ) (limit i : ℕ) → 1 ≤ i → ((j : ℕ) → (count_below limit xs ≤ j) × (j < length xs) → limit ≤ get_or xs j 0) → (1 + count_below limit xs ≤ i) × (i < 1 + length xs) → limit ≤ get_or (x ∷ xs) i 0
ge_after x xs limit zero some rest h = absurd (omega arith)
ge_after x xs limit (suc i) some rest h = rest i (omega arith, omega arith)

pub count_lt : (xs : List ℕ) (limit i : ℕ) → is_rising xs ≡ true → i < count_below limit xs → get_or xs i 0 < limit
count_lt [] limit i rise h = let none = count_within [] limit in absurd (omega arith)
count_lt (x ∷ xs) limit i rise h = elim (cases_lt x limit) [
  | inl low ↦
      let step = count-cons limit x xs ∙ ap (λ b. cond b 1 0 + count_below limit xs) (lt-ltb x limit low) in
      lt_after x xs limit i low (λ j k. count_lt xs limit j (rising_rest x xs rise) k) (omega arith)
  | inr high ↦ (let none = none_below x xs limit rise high in absurd (omega arith))
]

pub count_ge : (xs : List ℕ) (limit i : ℕ) → is_rising xs ≡ true → count_below limit xs ≤ i → i < length xs → limit ≤ get_or xs i 0
count_ge [] limit i rise h k = absurd (omega arith)
count_ge (x ∷ xs) limit i rise h k = elim (cases_lt x limit) [
  | inl low ↦
      let step = count-cons limit x xs ∙ ap (λ b. cond b 1 0 + count_below limit xs) (lt-ltb x limit low) in
      ge_after x xs limit i (omega arith) (λ j l. count_ge xs limit j (rising_rest x xs rise) l.0 l.1) (omega arith, omega arith)
  | inr high ↦ (let up = rising_to (x ∷ xs) 0 i rise (omega arith) k in omega arith)
]

-- as many indices are below a number as below a greater one, or fewer
pub count_up : (xs : List ℕ) (a b : ℕ) → is_rising xs ≡ true → a ≤ b → count_below a xs ≤ count_below b xs
count_up xs a b rise order = elim (cases_lt (count_below b xs) (count_below a xs)) [
  | inl wrong ↦ absurd (
      let within = count_within xs a in
      let low = count_lt xs a (count_below b xs) rise wrong in
      let high = count_ge xs b (count_below b xs) rise (omega arith) (omega arith) in
      omega arith)
  | inr right ↦ right
]

-- a number that is not there has no place
pub rank_none : (xs : List ℕ) (index : ℕ) → ((i : ℕ) → i < length xs → get_or xs i 0 ≢ index) → rank_of index xs ≡ None
rank_none [] index h = refl
rank_none (x ∷ xs) index h = rw (ne_eqb x index (h 0 (omega arith)), rank_none xs index (λ i k. h (suc i) (omega arith))) refl

-- a number has one place among rising ones
pub rank_found : (xs : List ℕ) (index k : ℕ) → is_rising xs ≡ true → k < length xs → get_or xs k 0 ≡ index → rank_of index xs ≡ Some k
rank_found [] index k rise h e = absurd (omega arith)
rank_found (x ∷ xs) index zero rise h e = rw (eq-eqb x index e) refl
rank_found (x ∷ xs) index (suc k) rise h e =
    let up = rising_above x xs k rise (omega arith) in
    rw (ne_eqb x index (λ same. absurd (omega arith)), rank_found xs index k (rising_rest x xs rise) (omega arith) e) (ap (λ n. Some n) (omega arith))

-- a number that doesn't stand where those below it end is not there
pub rank_absent : (xs : List ℕ) (index k : ℕ) → is_rising xs ≡ true → k ≡ count_below index xs → (k < length xs → get_or xs k 0 ≢ index) → rank_of index xs ≡ None
rank_absent xs index k rise is other = let h : count_below index xs < length xs → get_or xs (count_below index xs) 0 ≢ index = rw is at other in rank_none xs index (λ i l e. elim (cases_lt i (count_below index xs)) [
  | inl before ↦ (let low = count_lt xs index i rise before in absurd (omega arith))
  | inr after ↦ elim (cases_lt (count_below index xs) i) [
    | inl later ↦ (let first = count_ge xs index (count_below index xs) rise (omega arith) (omega arith) in let up = rising_at xs (count_below index xs) i rise later l in absurd (omega arith))
    | inr same ↦ (let here : count_below index xs ≡ i = omega arith in absurd (h (omega arith) (rw here e)))
  ]
])

rank_later : (x : ℕ) (xs : List ℕ) (index k : ℕ) (r : Option ℕ) → ((j : ℕ) → rank_of index xs ≡ Some j → (j < length xs) × (get_or xs j 0 ≡ index)) → rank_of index xs ≡ r → option_map (λ rank. rank + 1) r ≡ Some k
    → (k < length (x ∷ xs)) × (get_or (x ∷ xs) k 0 ≡ index)
rank_later x xs index k None rest is e = cc
rank_later x xs index k (Some j) rest is e =
    let next : suc j ≡ k = let same : j + 1 ≡ k = cc in omega arith in
    let here = rest j is in
    rw (← next) (omega arith, here.1)

-- what stands at the place of a number
pub rank_at : (xs : List ℕ) (index k : ℕ) → rank_of index xs ≡ Some k → (k < length xs) × (get_or xs k 0 ≡ index)
rank_at [] index k e = cc
rank_at (x ∷ xs) index k e = elim (cases_Bool (eqb x index)) [
  | inl same ↦ (let first : Some 0 ≡ Some k = rw same at e in let zeroth : 0 ≡ k = cc in rw (← zeroth) (omega arith, eqb-true x index same))
  | inr other ↦ (let later = rw other at e in rank_later x xs index k (rank_of index xs) (λ j f. rank_at xs index j f) refl later)
]

pub cases_rank : (xs : List ℕ) (index : ℕ) → (rank_of index xs ≡ None) ⊎ ((k : ℕ) × (rank_of index xs ≡ Some k))
cases_rank xs index = elim (rank_of index xs) as (λ r. (r ≡ None) ⊎ ((k : ℕ) × (r ≡ Some k))) [ None ↦ inl refl | Some k ↦ inr (k, refl) ]

-- ---- the count up to the next number
pub count_next : (xs : List ℕ) (index k : ℕ) → is_rising xs ≡ true → k < length xs → get_or xs k 0 ≡ index → count_below (index + 1) xs ≡ k + 1
count_next xs index k rise h is =
    count_split xs (index + 1) (k + 1) (omega arith)
    (λ i l. let up = rising_to xs i k rise (omega arith) h in omega arith)
    (λ i l m. let up = rising_at xs k i rise (omega arith) m in omega arith)

pub count_stays : (xs : List ℕ) (index k : ℕ) → is_rising xs ≡ true → k ≡ count_below index xs → (k < length xs → get_or xs k 0 ≢ index) → count_below (index + 1) xs ≡ k
count_stays xs index k rise is other =
    let room = count_within xs index in
    count_split xs (index + 1) k (omega arith)
    (λ i l. let low = count_lt xs index i rise (omega arith) in omega arith)
    (λ i l m.
    let at = count_ge xs index k rise (omega arith) (omega arith) in
    let apart = other (omega arith) in
    let up = rising_to xs k i rise l m in
    omega arith)

-- ---- numbers that are read from typed indices
pub length-numbers_by : {X : Type 0} (f : X → ℤ) (xs : List X) → length (numbers_by f xs) ≡ length xs
length-numbers_by f xs = length-map (map f xs) unsigned_abs ∙ length-map xs f

pub get_or-numbers_by : {X : Type 0} (f : X → ℤ) (xs : List X) (i : ℕ) (d : X) → i < length xs → get_or (numbers_by f xs) i 0 ≡ unsigned_abs (f (get_or xs i d))
get_or-numbers_by f xs i d h = get_or-map unsigned_abs (map f xs) i (f d) 0 (rw length-map h) ∙ ap unsigned_abs (get_or-map f xs i d (f d) h)

-- those below a number stand before the others
pub below_first : {X : Type 0} (f : X → ℤ) (xs : List X) (limit : ℕ) → is_rising (numbers_by f xs) ≡ true
    → (i j : ℕ) (d : X) → i ≤ j → j < length xs → nat_lt (unsigned_abs (f (get_or xs j d))) limit ≡ true → nat_lt (unsigned_abs (f (get_or xs i d))) limit ≡ true
below_first f xs limit rise i j d o h low =
    let len = length-numbers_by f xs in
    let up = rising_to (numbers_by f xs) i j rise o (omega arith) in
    let at_i = get_or-numbers_by f xs i d (omega arith) in
    let at_j = get_or-numbers_by f xs j d h in
    let small = ltb-true (unsigned_abs (f (get_or xs j d))) limit low in
    lt-ltb _ limit (omega arith)

-- a partition point is the count
pub count_from_point : {X : Type 0} (f : X → ℤ) (xs : List X) (limit r : ℕ) → r ≤ length xs
    → ((k : ℕ) (d : X) → 0 ≤ k → k < r → nat_lt (unsigned_abs (f (get_or xs k d))) limit ≡ true)
    → ((k : ℕ) (d : X) → r ≤ k → k < length xs → nat_lt (unsigned_abs (f (get_or xs k d))) limit ≡ false)
    → count_below limit (numbers_by f xs) ≡ r
count_from_point f [] limit r room below above = omega arith
count_from_point f (x ∷ xs) limit r room below above =
    let len = length-numbers_by f (x ∷ xs) in
    count_split (numbers_by f (x ∷ xs)) limit r (omega arith)
    (λ i h. let at = get_or-numbers_by f (x ∷ xs) i x (omega arith) in let small = ltb-true _ limit (below i x (omega arith) h) in omega arith)
    (λ i h k. let at = get_or-numbers_by f (x ∷ xs) i x (omega arith) in let large = ltb-false _ limit (above i x h (omega arith)) in omega arith)
