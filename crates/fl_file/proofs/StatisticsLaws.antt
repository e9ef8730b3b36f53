-- What the statistics of a column are.
use Rattle.std.proofs.Common.{◌≡◌, ℕ, ℤ, zero, suc, ◌+◌, ◌≤◌, ◌&&◌, Bool, true, false, cond, nat_lt, int_le, List, [], ◌∷◌, length, Option, None, Some, refl, ap, sym, ◌∙◌, arith, inl, inr, IsTrue}
use Rattle.std.specs.Prelude.{◌⊎◌, ◌≤ℤ◌, All, Contains, count_by, filter_map, fold, is_none}
use Rattle.std.specs.Int.{int_max, int_min}
use Rattle.std.specs.List.{list_all}
use Rattle.std.proofs.lemmas.Bool.{and_from, and_parts, le-ltb, lt-ltb}
use Rattle.std.proofs.lemmas.Int.{fold-int_max_bounds, fold-int_max_reached, fold-int_min_bounds, fold-int_min_reached, ints}
use Rattle.std.proofs.lemmas.List.Sums.{sum_by-cons}
use Rattle.fl_types.specs.declared.dtype.PType.{PType}
use Rattle.fl_types.specs.Integers.{fits}
use Rattle.fl_column.specs.Columns.{Column, option_all}
use Rattle.fl_file.specs.FootLaws.{extremes_fit}
use Rattle.fl_file.specs.Statistics.{AreExtremesOf, AreStatisticsOf, extremes_among, null_count_of, statistics_of_column, valid_items}

-- ---- each statistic is that of the column
reached : (zs : List ℤ) (x z : ℤ) → (z ≡ x) ⊎ Contains zs z → Contains (x ∷ zs) z
reached zs x z (inl is) = (0, omega arith, sym is)
reached zs x z (inr within) = (suc within.0, (let h = within.1 in omega arith), within.2)

each_of : (P : ℤ → Type 0) (x : ℤ) (zs : List ℤ) → P x → All P zs → All P (x ∷ zs)
each_of P x zs first rest zero d h = first
each_of P x zs first rest (suc k) d h = rest k d (omega arith)

extremes_are : (zs : List ℤ) → AreExtremesOf (extremes_among zs) zs
extremes_are [] = refl
extremes_are (z ∷ zs) =
    let low = fold-int_min_bounds z zs (fold int_min z zs) refl in
    let high = fold-int_max_bounds z zs (fold int_max z zs) refl in (
      record { one_of = reached zs z (fold int_min z zs) (fold-int_min_reached z zs (fold int_min z zs) refl); bound = each_of (λ y. fold int_min z zs ≤ℤ y) z zs low.0 low.1 },
      record { one_of = reached zs z (fold int_max z zs) (fold-int_max_reached z zs (fold int_max z zs) refl); bound = each_of (λ y. y ≤ℤ fold int_max z zs) z zs high.0 high.1 },
    )

pub statistics_are : (c : Column) → AreStatisticsOf (statistics_of_column c) c
statistics_are c = record { len = refl; null_count = refl; extremes = extremes_are (valid_items c); sorted = refl; sum = refl }

-- ---- ranges
nulls_and_valid : (items : List (Option ℤ)) → count_by is_none items + length (filter_map (λ o. o) items) ≡ length items
nulls_and_valid [] = refl
nulls_and_valid (None ∷ items) = let rest = nulls_and_valid items in let first = sum_by-cons (λ o. cond (is_none o) 1 0) None items in omega arith
nulls_and_valid (Some z ∷ items) = let rest = nulls_and_valid items in let first = sum_by-cons (λ o. cond (is_none o) 1 0) (Some z) items in omega arith

pub few_nulls : (c : Column) → null_count_of c ≤ length c.items
few_nulls c = let all = nulls_and_valid c.items in omega arith

valid_fit : (p : ℤ → Bool) (items : List (Option ℤ)) → list_all (option_all p) items ≡ true → list_all p (filter_map (λ o. o) items) ≡ true
valid_fit p [] h = refl
valid_fit p (None ∷ items) h = valid_fit p items h
valid_fit p (Some z ∷ items) h = let both = and_parts (p z) (list_all (option_all p) items) h in and_from (p z) (list_all p (filter_map (λ o. o) items)) both.0 (valid_fit p items both.1)

picked : (p : ℤ → Bool) (pick : ℤ → ℤ → ℤ) → ((x y : ℤ) → (pick x y ≡ x) ⊎ (pick x y ≡ y)) → (z : ℤ) (zs : List ℤ) → p z ≡ true → list_all p zs ≡ true → p (fold pick z zs) ≡ true
picked p pick one z [] h all = h
picked p pick one z (y ∷ zs) h all =
    let both = and_parts (p y) (list_all p zs) all in
    let next : p (pick z y) ≡ true = elim (one z y) [
      | inl is ↦ ap p is ∙ h
      | inr is ↦ ap p is ∙ both.0
    ] in
    picked p pick one (pick z y) zs next both.1

min_one : (x y : ℤ) → (int_min x y ≡ x) ⊎ (int_min x y ≡ y)
min_one x y = grind (arith, ints)

max_one : (x y : ℤ) → (int_max x y ≡ x) ⊎ (int_max x y ≡ y)
max_one x y = grind (arith, ints)

in_order : (x y z : ℤ) → x ≤ℤ y → y ≤ℤ z → int_le x z ≡ true
in_order x y z h k = grind (arith, ints)

fit_among : (t : PType) (zs : List ℤ) (nulls len : ℕ) → list_all (fits t) zs ≡ true → nulls + length zs ≡ len → IsTrue (extremes_fit t (nat_lt nulls len) (extremes_among zs))
fit_among t [] nulls len all sum = let none : nat_lt nulls len ≡ false = le-ltb nulls len (omega arith) in rw none refl
fit_among t (z ∷ zs) nulls len all sum =
    let some : nat_lt nulls len ≡ true = lt-ltb nulls len (omega arith) in
    let both = and_parts (fits t z) (list_all (fits t) zs) all in
    let low = fold-int_min_bounds z zs (fold int_min z zs) refl in
    let high = fold-int_max_bounds z zs (fold int_max z zs) refl in
    rw some (and_from (fits t (fold int_min z zs) && fits t (fold int_max z zs)) (int_le (fold int_min z zs) (fold int_max z zs))
    (and_from (fits t (fold int_min z zs)) (fits t (fold int_max z zs)) (picked (fits t) int_min min_one z zs both.0 both.1) (picked (fits t) int_max max_one z zs both.0 both.1))
    (in_order (fold int_min z zs) z (fold int_max z zs) low.0 high.0))

pub extremes_are_fit : (t : PType) (c : Column) → list_all (option_all (fits t)) c.items ≡ true → IsTrue (extremes_fit t (nat_lt (null_count_of c) (length c.items)) (extremes_among (valid_items c)))
extremes_are_fit t c all = fit_among t (valid_items c) (null_count_of c) (length c.items) (valid_fit (fits t) c.items all) (nulls_and_valid c.items)
