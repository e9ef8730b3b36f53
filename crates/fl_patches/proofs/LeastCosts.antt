-- The least of a row of numbers, and the width of least cost.
use Rattle.std.proofs.Common.{◌≡◌, ℕ, zero, suc, ◌+◌, ◌*◌, ◌<◌, ◌≤◌, Bool, true, false, List, sum, drop, length, get_or, nat_le, arith, inl, inr, subst, sym, ap, unwrap_or, refl}
use Rattle.std.proofs.lemmas.Bool.{and_from, cases_lt, le-leb, leb-true, and_parts}
use Rattle.std.proofs.lemmas.List.Sums.{sum_by-drop_more}
use Rattle.std.specs.Int.{div_ceil}
use Rattle.std.specs.List.{list_all, range_with_len}
use Rattle.fl_types.specs.declared.dtype.PType.{PType}
use Rattle.fl_patches.specs.Costs.{best_width, cost_of, costs_least, count_above, exception_bytes}
use Rattle.fl_patches.proofs.Firsts.{find_first}

-- the smallest number below n at which f is least
pub record IsFirstLeast (f : ℕ → ℕ) (n b : ℕ) : Type 0 where
  pub within : b < n
  pub least : (v : ℕ) → v < n → f b ≤ f v
  pub first : (v : ℕ) → v < b → f b < f v

pub first_least_one : (f : ℕ → ℕ) → IsFirstLeast f 1 0
first_least_one f = record {
  within = omega arith;
  least = λ v h. let e : v ≡ 0 = omega arith in subst (λ k. f 0 ≤ f k) (sym e) (omega arith);
  first = λ v h. absurd (omega arith);
}

pub first_least_keeps : (f : ℕ → ℕ) (n b : ℕ) → IsFirstLeast f n b → f b ≤ f n → IsFirstLeast f (n + 1) b
first_least_keeps f n b best k = record {
  within = omega (arith, best.within);
  least = λ v h. elim (cases_lt v n) [
    | inl below ↦ best.least v below
    | inr same ↦ let e : n ≡ v = omega arith in subst (λ m. f b ≤ f m) e k
  ];
  first = best.first;
}

pub first_least_takes : (f : ℕ → ℕ) (n b : ℕ) → IsFirstLeast f n b → f n < f b → IsFirstLeast f (n + 1) n
first_least_takes f n b best k = record {
  within = omega arith;
  least = λ v h. elim (cases_lt v n) [
    | inl below ↦ let q : f b ≤ f v = best.least v below in omega arith
    | inr same ↦ let e : n ≡ v = omega arith in subst (λ m. f n ≤ f m) e (omega arith)
  ];
  first = λ v h. let q : f b ≤ f v = best.least v h in omega arith;
}

-- the cost of a width, by the items above it
pub cost_at : (ptype : PType) (entries : List ℕ) (each width count above bytes : ℕ) → each ≡ exception_bytes ptype → count ≡ sum entries → above ≡ count_above width entries
    → bytes ≡ div_ceil (width * count) 8 + each * above → bytes ≡ cost_of ptype entries width
unfolding cost_of
cost_at ptype entries each width count above bytes e p q r = cc

-- what is above the next width
pub above_next : (entries : List ℕ) (i entry d : ℕ) → i < length entries → entry ≡ get_or entries i d → sum (drop i entries) ≡ entry + sum (drop (i + 1) entries)
above_next entries i entry d h e = let m = sum_by-drop_more (λ (x : ℕ). x) entries i d h in cc

-- a test that holds over a range
all_in_range : (p : ℕ → Bool) (a n : ℕ) → ((j : ℕ) → a ≤ j → j < a + n → p j ≡ true) → list_all p (range_with_len a n) ≡ true
all_in_range p a zero holds = refl
all_in_range p a (suc n) holds = and_from _ _ (holds a (omega arith) (omega arith)) (all_in_range p (a + 1) n (λ j h l. holds j (omega arith) (omega arith)))

range_test : (p : ℕ → Bool) (a n j : ℕ) → list_all p (range_with_len a n) ≡ true → a ≤ j → j < a + n → p j ≡ true
range_test p a zero j all h l = absurd (omega arith)
range_test p a (suc n) j all h l =
    let parts = and_parts (p a) _ all in
    elim (cases_lt a j) [
      | inl later ↦ range_test p (a + 1) n j parts.1 (omega arith) (omega arith)
      | inr same ↦ (let e : a ≡ j = omega arith in rw (← e) parts.0)
    ]

false_from : (b : Bool) → (b ≡ true → ⊥) → b ≡ false
false_from true h = absurd (h refl)
false_from false h = refl

-- the first of least cost is the best width
pub best_is : (ptype : PType) (entries : List ℕ) (width : ℕ) → IsFirstLeast (cost_of ptype entries) (length entries) width → best_width ptype entries ≡ width
unfolding best_width
best_is ptype entries width best =
    ap (λ o. unwrap_or o 0) (find_first (costs_least ptype entries) 0 (length entries) width (omega arith) (omega (arith, best.within))
    (all_in_range (λ other. nat_le (cost_of ptype entries width) (cost_of ptype entries other)) 0 (length entries) (λ j h l. le-leb _ _ (best.least j (omega arith))))
    (λ j h l. false_from (costs_least ptype entries j) (λ all.
    let higher : cost_of ptype entries width < cost_of ptype entries j = best.first j l in
    let not_higher : cost_of ptype entries j ≤ cost_of ptype entries width = leb-true _ _ (range_test (λ other. nat_le (cost_of ptype entries j) (cost_of ptype entries other)) 0 (length entries) width all (omega arith) (omega (arith, best.within))) in
    omega arith)))

-- without entries it is 0
pub best_none : (ptype : PType) (entries : List ℕ) → length entries ≡ 0 → 0 ≡ best_width ptype entries
unfolding best_width
best_none ptype entries none = rw none refl
