-- What costs least of joined lists, and of combinations whose costs add up.
use Rattle.std.proofs.Common.{◌≡◌, ◌+◌, ◌<◌, ◌≤◌, ℕ, true, false, List, [], ◌∷◌, ◌++◌, map, Option, Some, None, refl, ap, sym, ◌∙◌, arith, inl, inr}
use Rattle.std.specs.Prelude.{option_map, nat_lt, if◌then◌else◌, ◌⊎◌, flat_map}
use Rattle.std.specs.List.{All}
use Rattle.std.proofs.lemmas.Bool.{cases_lt}
use Rattle.std.proofs.lemmas.Bool.Decides.{nat_tests}
use Rattle.std.proofs.lemmas.List.Elements.{All-nil, All-cons}
use Rattle.fl_compress.specs.Cheapest.{both, cheaper, cheapest, combined, priced}

-- the same at a cost that is higher by so much
abbrev pub beside : {A : Type 0} → ℕ → Option (A × ℕ) → Option (A × ℕ)
beside more choice = option_map (λ c. (c.0, c.1 + more)) choice

pub cheaper_none : {A : Type 0} (a : Option (A × ℕ)) → cheaper a None ≡ a
cheaper_none None = refl
cheaper_none (Some a) = refl

pub cheaper_assoc : {A : Type 0} (a b c : Option (A × ℕ)) → cheaper (cheaper a b) c ≡ cheaper a (cheaper b c)
cheaper_assoc None b c = refl
cheaper_assoc (Some a) None c = refl
cheaper_assoc (Some a) (Some b) None = cheaper_none (cheaper (Some a) (Some b))
cheaper_assoc (Some a) (Some b) (Some c) = grind (arith, nat_tests)

pub cheapest_append : {A : Type 0} (cost : A → Option ℕ) (xs ys : List A) → cheapest cost (xs ++ ys) ≡ cheaper (cheapest cost xs) (cheapest cost ys)
unfolding cheapest
cheapest_append cost [] ys = refl
cheapest_append cost (x ∷ xs) ys = ap (cheaper (priced cost x)) (cheapest_append cost xs ys) ∙ sym (cheaper_assoc (priced cost x) (cheapest cost xs) (cheapest cost ys))

-- ---- combinations
combined_cheaper : {A B C : Type 0} (f : A → B → C) (a b : Option (A × ℕ)) (rest : Option (B × ℕ)) → cheaper (combined f a rest) (combined f b rest) ≡ combined f (cheaper a b) rest
combined_cheaper f None b rest = refl
combined_cheaper f (Some a) None None = refl
combined_cheaper f (Some a) None (Some rest) = refl
combined_cheaper f (Some a) (Some b) None = elim (nat_lt b.1 a.1) as (λ v. None ≡ combined f (if v then Some b else Some a) None) [ true ↦ refl | false ↦ refl ]
combined_cheaper f (Some a) (Some b) (Some rest) = grind (arith, nat_tests)

pub cheapest_rows : {A B C : Type 0} (cost : C → Option ℕ) (own : A → Option ℕ) (f : A → B → C) (rest : Option (B × ℕ)) (row : A → List C)
    → ((x : A) → cheapest cost (row x) ≡ combined f (priced own x) rest)
    → (xs : List A) → cheapest cost (flat_map row xs) ≡ combined f (cheapest own xs) rest
unfolding cheapest
cheapest_rows cost own f rest row each [] = refl
cheapest_rows cost own f rest row each (x ∷ xs) =
    cheapest_append cost (row x) (flat_map row xs)
    ∙ (ap (λ first. cheaper first (cheapest cost (flat_map row xs))) (each x)
    ∙ (ap (cheaper (combined f (priced own x) rest)) (cheapest_rows cost own f rest row each xs)
    ∙ combined_cheaper f (priced own x) (cheapest own xs) rest))

other_cheaper : {A B C : Type 0} (f : A → B → C) (first : Option (A × ℕ)) (a b : Option (B × ℕ)) → cheaper (combined f first a) (combined f first b) ≡ combined f first (cheaper a b)
other_cheaper f None a b = refl
other_cheaper f (Some first) None b = refl
other_cheaper f (Some first) (Some a) None = refl
other_cheaper f (Some first) (Some a) (Some b) = grind (arith, nat_tests)

priced_pair : {A B C : Type 0} (f : A → B → C) (cost : C → Option ℕ) (x : A) (y : B) (own other : Option ℕ) → cost (f x y) ≡ both own other → priced cost (f x y) ≡ combined f (option_map (λ n. (x, n)) own) (option_map (λ n. (y, n)) other)
priced_pair f cost x y (Some a) (Some b) e = ap (option_map (λ n. (f x y, n))) e
priced_pair f cost x y (Some a) None e = ap (option_map (λ n. (f x y, n))) e
priced_pair f cost x y None other e = ap (option_map (λ n. (f x y, n))) e

combined_none : {A B C : Type 0} (f : A → B → C) (first : Option (A × ℕ)) → None ≡ combined f first None
combined_none f None = refl
combined_none f (Some first) = refl

-- one choice beside each of several
pub cheapest_row : {A B C : Type 0} (cost : C → Option ℕ) (own : Option ℕ) (other : B → Option ℕ) (f : A → B → C) (x : A)
    → ((y : B) → cost (f x y) ≡ both own (other y))
    → (ys : List B) → cheapest cost (map (f x) ys) ≡ combined f (option_map (λ n. (x, n)) own) (cheapest other ys)
unfolding cheapest
cheapest_row cost own other f x each [] = combined_none f (option_map (λ n. (x, n)) own)
cheapest_row cost own other f x each (y ∷ ys) =
    ap (λ first. cheaper first (cheapest cost (map (f x) ys))) (priced_pair f cost x y own (other y) (each y))
    ∙ (ap (cheaper (combined f (option_map (λ n. (x, n)) own) (priced other y))) (cheapest_row cost own other f x each ys)
    ∙ other_cheaper f (option_map (λ n. (x, n)) own) (priced other y) (cheapest other ys))

-- each of several beside each of several
pub cheapest_pairs : {A B C : Type 0} (cost : C → Option ℕ) (own : A → Option ℕ) (other : B → Option ℕ) (f : A → B → C)
    → ((x : A) (y : B) → cost (f x y) ≡ both (own x) (other y))
    → (xs : List A) (ys : List B) → cheapest cost (flat_map (λ x. map (f x) ys) xs) ≡ combined f (cheapest own xs) (cheapest other ys)
cheapest_pairs cost own other f each xs ys = cheapest_rows cost own f (cheapest other ys) (λ x. map (f x) ys) (λ x. cheapest_row cost (own x) other f x (each x) ys) xs

-- what is made of one choice alone
abbrev pub wrapped : {A B : Type 0} → (A → B) → Option (A × ℕ) → Option (B × ℕ)
wrapped f first = option_map (λ a. (f a.0, a.1)) first

wrapped_cheaper : {A B : Type 0} (f : A → B) (a b : Option (A × ℕ)) → cheaper (wrapped f a) (wrapped f b) ≡ wrapped f (cheaper a b)
wrapped_cheaper f None b = refl
wrapped_cheaper f (Some a) None = refl
wrapped_cheaper f (Some a) (Some b) = grind (arith, nat_tests)

priced_wrapped : {A B : Type 0} (f : A → B) (cost : B → Option ℕ) (x : A) (own : Option ℕ) → cost (f x) ≡ own → priced cost (f x) ≡ wrapped f (option_map (λ n. (x, n)) own)
priced_wrapped f cost x None e = ap (option_map (λ n. (f x, n))) e
priced_wrapped f cost x (Some n) e = ap (option_map (λ n. (f x, n))) e

pub cheapest_map : {A B : Type 0} (cost : B → Option ℕ) (own : A → Option ℕ) (f : A → B) → ((x : A) → cost (f x) ≡ own x) → (xs : List A) → cheapest cost (map f xs) ≡ wrapped f (cheapest own xs)
unfolding cheapest
cheapest_map cost own f each [] = refl
cheapest_map cost own f each (x ∷ xs) =
    ap (λ first. cheaper first (cheapest cost (map f xs))) (priced_wrapped f cost x (own x) (each x))
    ∙ (ap (cheaper (wrapped f (priced own x))) (cheapest_map cost own f each xs)
    ∙ wrapped_cheaper f (priced own x) (cheapest own xs))

-- where nothing has a cost
pub cheapest_none : {A B : Type 0} (cost : B → Option ℕ) (f : A → B) → ((x : A) → cost (f x) ≡ None) → (xs : List A) → cheapest cost (map f xs) ≡ None
unfolding cheapest
cheapest_none cost f each [] = refl
cheapest_none cost f each (x ∷ xs) = ap (λ n. cheaper (option_map (λ k. (f x, k)) n) (cheapest cost (map f xs))) (each x) ∙ cheapest_none cost f each xs

-- nothing costs less than what costs nothing
pub free_first : {A : Type 0} (x : A) (rest : Option (A × ℕ)) → cheaper (Some (x, 0)) rest ≡ Some (x, 0)
free_first x None = refl
free_first x (Some other) = grind (arith, nat_tests)

-- where all cost nothing, the first
pub cheapest_free : {A : Type 0} (cost : A → Option ℕ) → ((x : A) → cost x ≡ Some 0) → (x : A) (xs : List A) → cheapest cost (x ∷ xs) ≡ Some (x, 0)
unfolding cheapest
cheapest_free cost each x xs = ap (λ n. cheaper (option_map (λ k. (x, k)) n) (cheapest cost xs)) (each x) ∙ free_first x (cheapest cost xs)

-- where all cost so much more
priced_more : {A : Type 0} (more : ℕ) (x : A) (o : Option ℕ) → option_map (λ n. (x, n)) (both o (Some more)) ≡ beside more (option_map (λ n. (x, n)) o)
priced_more more x None = refl
priced_more more x (Some n) = refl

beside_cheaper : {A : Type 0} (more : ℕ) (a b : Option (A × ℕ)) → cheaper (beside more a) (beside more b) ≡ beside more (cheaper a b)
beside_cheaper more None b = refl
beside_cheaper more (Some a) None = refl
beside_cheaper more (Some a) (Some b) = grind (arith, nat_tests)

pub cheapest_beside : {A : Type 0} (cost : A → Option ℕ) (more : ℕ) (xs : List A) → cheapest (λ x. both (cost x) (Some more)) xs ≡ beside more (cheapest cost xs)
unfolding cheapest
cheapest_beside cost more [] = refl
cheapest_beside cost more (x ∷ xs) =
    ap (λ first. cheaper first (cheapest (λ y. both (cost y) (Some more)) xs)) (priced_more more x (cost x))
    ∙ (ap (cheaper (beside more (priced cost x))) (cheapest_beside cost more xs)
    ∙ beside_cheaper more (priced cost x) (cheapest cost xs))

-- of three lists
pub cheapest_three : {A : Type 0} (cost : A → Option ℕ) (xs ys zs : List A) → cheapest cost (xs ++ (ys ++ zs)) ≡ cheaper (cheaper (cheapest cost xs) (cheapest cost ys)) (cheapest cost zs)
cheapest_three cost xs ys zs = cheapest_append cost xs (ys ++ zs) ∙ (ap (cheaper (cheapest cost xs)) (cheapest_append cost ys zs) ∙ sym (cheaper_assoc (cheapest cost xs) (cheapest cost ys) (cheapest cost zs)))

-- ---- where the cheapest stands
-- it stands behind dearer ones, and before none that is cheaper
pub record IsFirstCheapest {A : Type 0} (cost : A → Option ℕ) (xs : List A) (x : A) (n : ℕ) : Type 0 where
  pub before : List A
  pub behind : List A
  pub place : xs ≡ before ++ x ∷ behind
  pub own : cost x ≡ Some n
  pub dearer : All (λ y. (m : ℕ) → cost y ≡ Some m → n < m) before
  pub no_cheaper : All (λ y. (m : ℕ) → cost y ≡ Some m → n ≤ m) behind

-- the cheaper of two costs at most what the first costs
cheaper_first : {A : Type 0} (a : A × ℕ) (r : Option (A × ℕ)) → (c : A × ℕ) × (cheaper (Some a) r ≡ Some c) × (c.1 ≤ a.1)
cheaper_first a None = (a, refl, omega arith)
cheaper_first a (Some b) = elim (cases_lt b.1 a.1) [
  | inl lt ↦ (b, grind (arith, nat_tests), omega arith)
  | inr ge ↦ (a, grind (arith, nat_tests), omega arith)
]

-- and at most what the other costs
cheaper_other : {A : Type 0} (a : Option (A × ℕ)) (b : A × ℕ) → (c : A × ℕ) × (cheaper a (Some b) ≡ Some c) × (c.1 ≤ b.1)
cheaper_other None b = (b, refl, omega arith)
cheaper_other (Some a) b = elim (cases_lt b.1 a.1) [
  | inl lt ↦ (b, grind (arith, nat_tests), omega arith)
  | inr ge ↦ (a, grind (arith, nat_tests), omega arith)
]

-- where the cheapest costs as much, none of the list costs less
at_least : {A : Type 0} (cost : A → Option ℕ) (n : ℕ) (xs : List A) → ((c : A × ℕ) → cheapest cost xs ≡ Some c → n ≤ c.1) → All (λ y. (m : ℕ) → cost y ≡ Some m → n ≤ m) xs
unfolding cheapest
at_least cost n [] h = All-nil (λ y. (m : ℕ) → cost y ≡ Some m → n ≤ m)
at_least {A} cost n (x ∷ xs) h =
    All-cons (λ y. (m : ℕ) → cost y ≡ Some m → n ≤ m) x xs
    (λ m e.
    let least = cheaper_first (x, m) (cheapest cost xs) in
    let first : priced cost x ≡ Some (x, m) = ap (option_map (λ k. (x, k))) e in
    let small : n ≤ (least.0).1 = h least.0 (ap (λ a. cheaper a (cheapest cost xs)) first ∙ least.1) in
    let most : (least.0).1 ≤ m = least.2 in
    omega arith)
    (at_least cost n xs (λ c e.
    let least = cheaper_other (priced cost x) c in
    let small : n ≤ (least.0).1 = h least.0 (ap (cheaper (priced cost x)) e ∙ least.1) in
    let most : (least.0).1 ≤ c.1 = least.2 in
    omega arith))

-- which of two the cheaper is
cheaper_is : {A : Type 0} (a r : Option (A × ℕ)) (b : A × ℕ) → cheaper a r ≡ Some b → ((a ≡ Some b) × ((c : A × ℕ) → r ≡ Some c → b.1 ≤ c.1)) ⊎ ((r ≡ Some b) × ((c : A × ℕ) → a ≡ Some c → b.1 < c.1))
cheaper_is None r b e = inr (e, λ c f. cc)
cheaper_is (Some a) None b e = inl (e, λ c f. cc)
cheaper_is (Some a) (Some r) b e = elim (cases_lt r.1 a.1) [
  | inl lt ↦ inr (grind (arith, nat_tests), λ c f. grind (arith, nat_tests))
  | inr ge ↦ inl (grind (arith, nat_tests), λ c f. grind (arith, nat_tests))
]

own_of : {A : Type 0} (x : A) (o : Option ℕ) (b : A × ℕ) → option_map (λ k. (x, k)) o ≡ Some b → (x ≡ b.0) × (o ≡ Some b.1)
own_of x None b e = cc
own_of x (Some n) b e = (cc, cc)

pub first_cheapest : {A : Type 0} (cost : A → Option ℕ) (xs : List A) (b : A × ℕ) → cheapest cost xs ≡ Some b → IsFirstCheapest cost xs b.0 b.1
unfolding cheapest
first_cheapest cost [] b e = cc
first_cheapest {A} cost (x ∷ xs) b e = elim (cheaper_is (priced cost x) (cheapest cost xs) b e) [
  | inl here ↦
      let own = own_of x (cost x) b here.0 in
      record {
        before = [];
        behind = xs;
        place = ap (λ (y : A). y ∷ xs) own.0;
        own = sym (ap cost own.0) ∙ own.1;
        dearer = All-nil (λ y. (m : ℕ) → cost y ≡ Some m → b.1 < m);
        no_cheaper = at_least cost b.1 xs here.1;
      }
  | inr there ↦
      let rest = first_cheapest cost xs b there.0 in
      record {
        before = x ∷ rest.before;
        behind = rest.behind;
        place = ap (λ (ys : List A). x ∷ ys) rest.place;
        own = rest.own;
        dearer = All-cons (λ y. (m : ℕ) → cost y ≡ Some m → b.1 < m) x rest.before (λ m f. there.1 (x, m) (ap (option_map (λ k. (x, k))) f)) rest.dearer;
        no_cheaper = rest.no_cheaper;
      }
]
