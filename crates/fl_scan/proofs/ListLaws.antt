-- Lists of integers that items are compared with.
use Rattle.std.proofs.Common.{◌≡◌, ◌≢◌, ◌||◌, ℕ, ℤ, pos, zero, suc, ◌+◌, ◌-◌, ◌*◌, ◌/◌, ◌%◌, ◌<◌, ◌≤◌, List, [], ◌∷◌, ◌++◌, length, map, get_or, set, take, max, bit_or, Bool, true, false, Some, None, int_lt, int_cmp, is_lt, refl, ap, sym, ◌∙◌, arith, inl, inr}
use Rattle.std.specs.Prelude.{◌==◌, ◌≤ℤ◌, ◌<ℤ◌, IsPermutation, IsSortedByKey}
use Rattle.std.specs.Int.{bit_at}
use Rattle.std.specs.List.{list_any}
use Rattle.std.specs.Ordering.{int_eq}
use Rattle.std.specs.declared.cmp.Ordering.{Ordering}
use Rattle.std.specs.declared.cmp.Ordering.TheVariants.{Less, Equal, Greater}
use Rattle.std.proofs.lemmas.Cmp.{int_ranked}
use Rattle.std.proofs.lemmas.Int.{ints}
use Rattle.std.proofs.lemmas.Bool.{cases_lt}
use Rattle.std.proofs.lemmas.List.{get_or-map, get_or_default, length-map, take_more}
use Rattle.std.proofs.lemmas.List.Elements.{All-from_recursion}
use Rattle.std.proofs.lemmas.List.Folds.{list_any-append, list_any_at}
use Rattle.std.proofs.lemmas.List.Sorted.{IsPermutation-map, list_any-IsPermutation}
use Rattle.std.proofs.lemmas.Nat.Bits.{bit_at_or, bit_at-lt}
use Rattle.fastlanes.specs.Compared.{has_bit, is_bit_set}
use Rattle.fl_column.specs.Columns.{Column}
use Rattle.fl_bitpacking.specs.RangeTests.{passes}
use Rattle.fl_bitpacking.specs.declared.compute.range_test.RangeTest.{RangeTest}
use Rattle.fl_array.specs.BlockAnswers.{AreBlockAnswers}
use Rattle.fl_scan.specs.Membership.{is_one_of}
use Rattle.fl_scan.proofs.StepLaws.{mapped_item}

-- ---- words
test_or : (x y : ℕ) → x < 2 → y < 2 → (max x y == 1) ≡ ((x == 1) || (y == 1))
test_or zero zero h k = refl
test_or zero (suc zero) h k = refl
test_or (suc zero) zero h k = refl
test_or (suc zero) (suc zero) h k = refl
test_or (suc (suc x)) y h k = absurd (omega arith)
test_or x (suc (suc y)) h k = absurd (omega arith)

pub of_or : (a b j : ℕ) → is_bit_set (bit_or a b) j ≡ (is_bit_set a j || is_bit_set b j)
unfolding is_bit_set
of_or a b j = ap (λ (n : ℕ). n == 1) (bit_at_or a b j) ∙ test_or (bit_at a j) (bit_at b j) (bit_at-lt a j) (bit_at-lt b j)

-- ---- one constant more
pub none_listed : (bits : List ℕ) (j offset : ℕ) (c : Column) → ((i : ℕ) → i < 1024 → has_bit bits i ≡ false) → AreBlockAnswers (is_one_of []) bits j offset c
none_listed bits j offset c none = λ i z h at e. none ((offset + i) % 1024) (omega arith)

listed_more : {X : Type 0} (value : X → ℤ) (xs : List X) (k : ℕ) (x : X) (z : ℤ) → k < length xs → x ≡ get_or xs k x → (is_one_of (take k (map value xs)) z || int_eq z (value x)) ≡ is_one_of (take (k + 1) (map value xs)) z
listed_more value xs k x z h is =
    let inside : k < length (map value xs) = let same = length-map xs value in omega arith in
    let y = get_or (map value xs) k (pos 0) in
    let last : list_any (int_eq z) (y ∷ []) ≡ int_eq z (value x) = or_nothing (int_eq z y) ∙ ap (int_eq z) (mapped_item value xs k x h is) in
    sym (ap (list_any (int_eq z)) (take_more (map value xs) k (pos 0) inside) ∙ (list_any-append (int_eq z) (take k (map value xs)) (y ∷ []) ∙ ap (λ b. is_one_of (take k (map value xs)) z || b) last))
  where
    or_nothing : (b : Bool) → (b || false) ≡ b
    or_nothing true = refl
    or_nothing false = refl

pub compared_more : {X : Type 0} (value : X → ℤ) (xs : List X) (k : ℕ) (x : X) (old other new : List ℕ) (range : RangeTest) (y : ℤ) (j offset : ℕ) (c : Column) → k < length xs → x ≡ get_or xs k x → y ≡ value x → ((z : ℤ) → passes range z ≡ int_eq z y)
    → ((i : ℕ) → i < 1024 → has_bit new i ≡ (has_bit old i || has_bit other i)) → AreBlockAnswers (passes range) other j offset c → AreBlockAnswers (is_one_of (take k (map value xs))) old j offset c → AreBlockAnswers (is_one_of (take (k + 1) (map value xs))) new j offset c
compared_more value xs k x old other new range y j offset c h is same test joined here before = λ i z inside at e.
    joined ((offset + i) % 1024) (omega arith)
    ∙ (ap (λ b. b || has_bit other ((offset + i) % 1024)) (before i z inside at e)
    ∙ (ap (λ b. is_one_of (take k (map value xs)) z || b) (here i z inside at e ∙ (test z ∙ ap (int_eq z) same)) ∙ listed_more value xs k x z h is))

-- ---- order
not_lower : (x y : ℤ) → is_lt (int_cmp x y) ≡ false → y ≤ℤ x
not_lower x y h = each (int_cmp x y) refl h
  where
    each : (r : Ordering) → r ≡ int_cmp x y → is_lt r ≡ false → y ≤ℤ x
    each Less e off = let wrong : true ≡ false = off in cc
    each Equal e off = let same : x ≡ y = int_ranked x y Equal e in omega (arith, ints)
    each Greater e off = let above : y <ℤ x = int_ranked x y Greater e in omega (arith, ints)

mapped_at : {X : Type 0} (value : X → ℤ) (xs : List X) (i : ℕ) (d : X) → i < length xs → get_or (map value xs) i (pos 0) ≡ value (get_or xs i d)
mapped_at value xs i d h = get_or-map value xs i d (pos 0) h

rises_by : {X : Type 0} (value : X → ℤ) (xs : List X) (i n : ℕ) (d : X) → IsSortedByKey value int_cmp xs → i + n < length xs → value (get_or xs i d) ≤ℤ value (get_or xs (i + n) d)
rises_by value xs i zero d sorted h = let same : i + zero ≡ i = omega arith in rw same (omega (arith, ints))
rises_by value xs i (suc n) d sorted h =
    let next : i + suc n ≡ i + n + 1 = omega arith in
    let before = rises_by value xs i n d sorted (omega arith) in
    let here = not_lower (value (get_or xs (i + n + 1) d)) (value (get_or xs (i + n) d)) (sorted (i + n) d (omega arith) (omega arith)) in
    rw next (omega (arith, ints))

-- integers of a sorted list do not fall
pub rises : {X : Type 0} (value : X → ℤ) (xs : List X) (i j : ℕ) (d : X) → IsSortedByKey value int_cmp xs → i ≤ j → j < length xs → value (get_or xs i d) ≤ℤ value (get_or xs j d)
rises value xs i j d sorted order h = let place : i + (j - i) ≡ j = omega arith in rw place at (rises_by value xs i (j - i) d sorted (omega arith))

-- ---- a search
lower_is : (x z : ℤ) → int_lt x z ≡ true → x <ℤ z
lower_is x z h = grind (arith, ints)

not_lower_is : (x z : ℤ) → int_lt x z ≡ false → z ≤ℤ x
not_lower_is x z h = grind (arith, ints)

-- the integers before a place are below z, and those from another one on are not
pub record IsSearched {X : Type 0} (value : X → ℤ) (xs : List X) (z : ℤ) (low high : ℕ) : Type 0 where
  pub below : (i : ℕ) (d : X) → i < low → i < length xs → value (get_or xs i d) <ℤ z
  pub above : (i : ℕ) (d : X) → high ≤ i → i < length xs → z ≤ℤ value (get_or xs i d)

pub searched_none : {X : Type 0} (value : X → ℤ) (xs : List X) (z : ℤ) → IsSearched value xs z 0 (length xs)
searched_none value xs z = record { below = λ i d h k. absurd (omega arith); above = λ i d h k. absurd (omega arith) }

pub searched_above : {X : Type 0} (value : X → ℤ) (xs : List X) (z : ℤ) (low high middle : ℕ) (x : X) → IsSortedByKey value int_cmp xs → middle < length xs → x ≡ get_or xs middle x → true ≡ int_lt (value x) z → IsSearched value xs z low high → IsSearched value xs z (middle + 1) high
searched_above value xs z low high middle x sorted inside is less so_far = record {
  below = λ i d h k.
      let last : value (get_or xs middle d) <ℤ z = (let same : x ≡ get_or xs middle d = is ∙ get_or_default xs middle x d inside in lower_is (value (get_or xs middle d)) z (sym (less ∙ ap (λ y. int_lt (value y) z) same))) in
      let order = rises value xs i middle d sorted (omega arith) inside in
      omega (arith, ints);
  above = so_far.above;
}

pub searched_below : {X : Type 0} (value : X → ℤ) (xs : List X) (z : ℤ) (low high middle : ℕ) (x : X) → IsSortedByKey value int_cmp xs → middle < length xs → x ≡ get_or xs middle x → false ≡ int_lt (value x) z → IsSearched value xs z low high → IsSearched value xs z low middle
searched_below value xs z low high middle x sorted inside is not_less so_far = record {
  below = so_far.below;
  above = λ i d h k.
      let first : z ≤ℤ value (get_or xs middle d) = (let same : x ≡ get_or xs middle d = is ∙ get_or_default xs middle x d inside in not_lower_is (value (get_or xs middle d)) z (sym (not_less ∙ ap (λ y. int_lt (value y) z) same))) in
      let order = rises value xs middle i d sorted h k in
      omega (arith, ints);
}

apart : (x z : ℤ) → x <ℤ z → int_eq z x ≡ false
apart x z h = grind (arith, ints)

apart_above : (x z : ℤ) → z <ℤ x → int_eq z x ≡ false
apart_above x z h = grind (arith, ints)

equal_is : (x z : ℤ) → int_eq z x ≡ false → z ≤ℤ x → z <ℤ x
equal_is x z h k = grind (arith, ints)

none_of : (z : ℤ) (zs : List ℤ) → ((i : ℕ) → i < length zs → int_eq z (get_or zs i (pos 0)) ≡ false) → is_one_of zs z ≡ false
none_of z [] each = refl
none_of z (y ∷ zs) each = rw (each 0 (omega arith)) (none_of z zs (λ i h. each (suc i) (omega arith)))

-- all are below
pub found_none : {X : Type 0} (value : X → ℤ) (xs : List X) (z : ℤ) (low : ℕ) → length xs ≤ low → IsSearched value xs z low low → false ≡ is_one_of (map value xs) z
found_none value xs z low past searched = sym (none_of z (map value xs) (λ i h.
    let mapped = length-map xs value in
    let inside : i < length xs = omega arith in
    each_first xs i inside (λ d. ap (int_eq z) (mapped_at value xs i d inside) ∙ apart (value (get_or xs i d)) z (searched.below i d (omega arith) inside))))
  where
    each_first : {X : Type 0} {P : Type 0} (xs : List X) (i : ℕ) → i < length xs → ((d : X) → P) → P
    each_first [] i h f = absurd (omega arith)
    each_first (x ∷ xs) i h f = f x

-- the one that could be it
pub found_here : {X : Type 0} (value : X → ℤ) (xs : List X) (z : ℤ) (low : ℕ) (x : X) (same : Bool) → IsSortedByKey value int_cmp xs → low < length xs → x ≡ get_or xs low x → same ≡ int_eq z (value x) → IsSearched value xs z low low → same ≡ is_one_of (map value xs) z
found_here value xs z low x true sorted inside is equal searched =
    let mapped = length-map xs value in
    sym (list_any_at (int_eq z) (map value xs) low (pos 0) (omega arith) (ap (int_eq z) (mapped_item value xs low x inside is) ∙ sym equal))
found_here value xs z low x false sorted inside is differs searched = sym (none_of z (map value xs) (λ i h.
    let mapped = length-map xs value in
    let within : i < length xs = omega arith in
    ap (int_eq z) (mapped_at value xs i x within) ∙ elim (cases_lt i low) [
      | inl before ↦ apart (value (get_or xs i x)) z (searched.below i x before within)
      | inr after ↦
          let first : z ≤ℤ value (get_or xs low x) = searched.above low x (omega arith) inside in
          let other : int_eq z (value (get_or xs low x)) ≡ false = ap (λ y. int_eq z (value y)) (sym is) ∙ sym differs in
          let above = equal_is (value (get_or xs low x)) z other first in
          let order = rises value xs low i x sorted after within in
          apart_above (value (get_or xs i x)) z (omega (arith, ints))
    ]))

-- ---- a sort
pub sorted_same : {X : Type 0} (value : X → ℤ) (xs ys : List X) (z : ℤ) → IsPermutation xs ys → is_one_of (map value ys) z ≡ is_one_of (map value xs) z
sorted_same value xs ys z moved = sym (list_any-IsPermutation (int_eq z) (map value xs) (map value ys) (IsPermutation-map value xs ys moved))
