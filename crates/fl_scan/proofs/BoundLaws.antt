-- Positions in sorted columns.
use Rattle.std.proofs.Common.{◌≡◌, ℕ, ℤ, zero, suc, ◌+◌, ◌-◌, ◌/◌, ◌<◌, ◌≤◌, List, [], ◌∷◌, length, get_or, min, Bool, true, false, not, Option, Some, None, int_lt, refl, ap, sym, ◌∙◌, arith, inl, inr}
use Rattle.std.specs.Prelude.{is_some}
use Rattle.std.proofs.lemmas.Bool.{cases_lt}
use Rattle.std.proofs.lemmas.Int.{ints}
use Rattle.std.proofs.lemmas.List.Sums.{prefix_len_is}
use Rattle.fl_column.specs.Columns.{Column}
use Rattle.fl_column.specs.Queries.{are_sorted, each_next, is_below}
use Rattle.fl_column.proofs.ListLaws.{and_first, and_second}
use Rattle.fl_array.specs.Readers.{Prepared}
use Rattle.fl_scan.specs.Bounds.{block_start, is_below_at, lower_bound_of}

-- ---- one item
-- what an item that was read and is not null says
pub valid_below : (o : Option ℤ) (x z : ℤ) → true ≡ is_some o → ((y : ℤ) → o ≡ Some y → x ≡ y) → int_lt x z ≡ is_below o (Some z)
valid_below None x z is shown = let wrong : true ≡ false = is in cc
valid_below (Some y) x z is shown = rw (shown y refl) refl

-- ---- order
next_pair : {A : Type 0} (test : A → A → Bool) (xs : List A) (i : ℕ) (d : A) → each_next test xs ≡ true → i + 1 < length xs → test (get_or xs i d) (get_or xs (i + 1) d) ≡ true
next_pair test [] i d e h = absurd (omega arith)
next_pair test (x ∷ []) i d e h = absurd (omega arith)
next_pair test (x ∷ y ∷ rest) zero d e h = and_first (test x y) (each_next test (y ∷ rest)) e
next_pair test (x ∷ y ∷ rest) (suc i) d e h = let step : suc i + 1 ≡ suc (i + 1) = omega arith in rw step (next_pair test (y ∷ rest) i d (and_second (test x y) (each_next test (y ∷ rest)) e) (omega arith))

no_bool : (b : Bool) → not b ≡ true → b ≡ false
no_bool true h = cc
no_bool false h = refl

-- an item that is not above one that is below an integer
below_too : (x y : Option ℤ) (z : ℤ) → not (is_below y x) ≡ true → is_below y (Some z) ≡ true → is_below x (Some z) ≡ true
below_too None y z order below = refl
below_too (Some a) None z order below = let wrong : false ≡ true = order in cc
below_too (Some a) (Some b) z order below = let other = no_bool (int_lt b a) order in grind (arith, ints)

-- the items before one that is below
before : (items : List (Option ℤ)) (z : ℤ) (n i : ℕ) → are_sorted items ≡ true → i + n < length items → is_below (get_or items (i + n) None) (Some z) ≡ true → is_below (get_or items i None) (Some z) ≡ true
before items z zero i sorted h below = let same : i + 0 ≡ i = omega arith in rw same at below
before items z (suc n) i sorted h below =
    let step : i + suc n ≡ i + n + 1 = omega arith in
    let here : is_below (get_or items (i + n + 1) None) (Some z) ≡ true = rw step at below in
    before items z n i sorted (omega arith) (below_too (get_or items (i + n) None) (get_or items (i + n + 1) None) z (next_pair (λ x y. not (is_below y x)) items (i + n) None sorted (omega arith)) here)

-- a position whose item is not below, behind one whose item is
pub bound_is : (c : Column) (z : ℤ) (r : ℕ) → are_sorted c.items ≡ true → r ≤ length c.items → (0 < r → is_below_at z c (r - 1) ≡ true) → (r < length c.items → is_below_at z c r ≡ false) → r ≡ lower_bound_of z c
bound_is c z r sorted room below above = sym (prefix_len_is (λ item. is_below item (Some z)) c.items r None room
    (λ k h.
    let place : k + (r - 1 - k) ≡ r - 1 = omega arith in
    before c.items z (r - 1 - k) k sorted (omega arith) (ap (λ i. is_below_at z c i) place ∙ below (omega arith)))
    above)

false_true : (b : Bool) → b ≡ true → b ≡ false → ⊥
false_true b h k = let wrong : true ≡ false = sym h ∙ k in cc

-- ---- two searches
-- the position in the last block that begins below
pub bound_in_block : (p : Prepared) (z : ℤ) (count from to n : ℕ) → are_sorted p.column.items ≡ true → 0 < length p.column.items → 0 < count → count ≤ (p.offset + length p.column.items + 1023) / 1024
    → from ≡ block_start p (count - 1) → to ≡ min (block_start p count) (length p.column.items) → from ≤ to → n ≤ to - from
    → is_below_at z p.column from ≡ true → (count < (p.offset + length p.column.items + 1023) / 1024 → is_below_at z p.column (block_start p count) ≡ false)
    → (0 < n → is_below_at z p.column (from + n - 1) ≡ true) → (n < to - from → is_below_at z p.column (from + n) ≡ false) → from + n ≡ lower_bound_of z p.column
bound_in_block p z count from to n sorted some blocks most from_is to_is order few begins ends below above =
    let c = p.column in
    let len : ℕ = length c.items in
    -- the item at the end of the block is not below
    let behind : to < len → is_below_at z c to ≡ false = λ h.
    (let place : block_start p count ≡ to = omega arith in
    ap (λ i. is_below_at z c i) (sym place) ∙ ends (omega arith)) in
    let inside : from < len = omega arith in
    -- so there is an item in the block, and the first one is below
    let more : 0 < n = elim (cases_lt 0 n) [
      | inl some_here ↦ some_here
      | inr none_here ↦ absurd (false_true (is_below_at z c from) begins (elim (cases_lt from to) [
        | inl block ↦ (let place : from + n ≡ from = omega arith in ap (λ i. is_below_at z c i) (sym place) ∙ above (omega arith))
        | inr empty ↦ (let place : to ≡ from = omega arith in ap (λ i. is_below_at z c i) (sym place) ∙ behind (omega arith))
      ]))
    ] in
    bound_is c z (from + n) sorted (omega arith) (λ h. below more) (λ h. elim (cases_lt n (to - from)) [
      | inl here ↦ above here
      | inr all ↦ (let place : to ≡ from + n = omega arith in ap (λ i. is_below_at z c i) (sym place) ∙ behind (omega arith))
    ])

-- no block begins below
pub bound_at_start : (p : Prepared) (z : ℤ) (count : ℕ) → are_sorted p.column.items ≡ true → 0 < length p.column.items → count ≡ 0 → (count < (p.offset + length p.column.items + 1023) / 1024 → is_below_at z p.column (block_start p count) ≡ false) → 0 ≡ lower_bound_of z p.column
bound_at_start p z count sorted some none ends =
    let place : block_start p count ≡ 0 = omega arith in
    bound_is p.column z 0 sorted (omega arith) (λ h. absurd (omega arith)) (λ h. ap (λ i. is_below_at z p.column i) (sym place) ∙ ends (omega arith))

-- no item
pub bound_of_none : (c : Column) (z : ℤ) (n : ℕ) → n ≡ length c.items → n ≡ 0 → 0 ≡ lower_bound_of z c
bound_of_none c z n size none = let few : length c.items ≡ 0 = omega arith in sym (prefix_len_is (λ item. is_below item (Some z)) c.items 0 None (omega arith) (λ k h. absurd (omega arith)) (λ h. absurd (omega arith)))
