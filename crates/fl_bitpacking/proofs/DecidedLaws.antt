-- Predicates that a width decides, and the blocks that a test unpacks.
use Rattle.std.proofs.Common.{◌≡◌, ℕ, ℤ, pos, ◌+◌, ◌-◌, ◌%◌, ◌^◌, ◌<◌, ◌≤◌, Bool, true, false, nat_le, nat_eq, get_or, refl, ap, sym, ◌∙◌, inl, inr, arith}
use Rattle.std.specs.Prelude.{◌||◌, if◌then◌else◌}
use Rattle.std.specs.Bool.{beq}
use Rattle.std.specs.List.{list_all, range_with_len}
use Rattle.std.proofs.lemmas.Bool.{cases_lt, cases_eq, le-leb, lt-ltb, le-ltb, lt-leb, ne_eqb, eq-eqb}
use Rattle.std.proofs.Math.Nat.{mod-eq_of_lt, add-mod_right}
use Rattle.std.proofs.lemmas.Nat.{mod_below, pow_pos}
use Rattle.std.proofs.Math.Pow.{pow_mono}
use Rattle.std.proofs.lemmas.List.FromFn.{length-range_with_len, get_or-range_with_len}
use Rattle.fl_types.specs.declared.dtype.PType.{PType}
use Rattle.fl_types.specs.declared.dtype.PType.TheVariants.{U8, U16, U32, U64, I8, I16, I32, I64}
use Rattle.fl_types.specs.Integers.{bits_of_type}
use Rattle.fl_column.proofs.ListLaws.{all_at, all_fails, all_from}
use Rattle.fl_bitpacking.specs.declared.compute.range_test.RangeTest.{RangeTest}
use Rattle.fl_bitpacking.specs.Decided.{is_decided}
use Rattle.fl_bitpacking.specs.declared.compute.range_test.PatternTest.{PatternTest}
use Rattle.fl_bitpacking.specs.RangeTests.{TestsPatterns, answer_of, passes}
use Rattle.fl_bitpacking.proofs.RangeLaws.{read_small, tested_by}

same_beq : (b : Bool) → beq b b ≡ true
same_beq true = refl
same_beq false = refl

other_beq : (n : Bool) → beq (answer_of n true) (answer_of n false) ≡ false
other_beq true = refl
other_beq false = refl

beq_other : (n : Bool) → beq (answer_of n false) (answer_of n true) ≡ false
beq_other true = refl
beq_other false = refl

at_index : (count i : ℕ) → i < count → get_or (range_with_len 0 count) i 0 ≡ i
at_index count i h = get_or-range_with_len 0 count i 0 h ∙ (let none : 0 + i ≡ i = omega arith in none)

all_one : (count : ℕ) (answer : ℕ → Bool) (b : Bool) → 0 < count → ((x : ℕ) → x < count → answer x ≡ b) → list_all (λ x. beq (answer x) (answer 0)) (range_with_len 0 count) ≡ true
all_one count answer b some each = all_from (λ x. beq (answer x) (answer 0)) (range_with_len 0 count) 0
    (λ i h.
    let size = length-range_with_len 0 count in
    let inside : i < count = omega arith in
    rw (at_index count i inside, each i inside, each 0 some) (same_beq b))

two_answers : (count : ℕ) (answer : ℕ → Bool) (x : ℕ) → x < count → beq (answer x) (answer 0) ≡ false → list_all (λ x. beq (answer x) (answer 0)) (range_with_len 0 count) ≡ false
two_answers count answer x h e =
    let size = length-range_with_len 0 count in
    all_fails (λ x. beq (answer x) (answer 0)) (range_with_len 0 count) x 0 (omega arith) (rw (at_index count x h) e)

-- how far a pattern is above another one goes on from how far 0 is
far_from : (m low x : ℕ) → low < m → (x + (m - low)) % m ≡ ((m - low) % m + x) % m
far_from m low x small = elim (cases_lt (m - low) m) [
  | inl less ↦ ap (λ (n : ℕ). n % m) (let first : (m - low) % m ≡ m - low = mod-eq_of_lt less in let sum : x + (m - low) ≡ (m - low) % m + x = omega arith in sum)
  | inr whole ↦
      let all : x + (m - low) ≡ x + m = omega arith in
      let is : m - low ≡ 0 + m = omega arith in
      let none : (m - low) % m ≡ 0 = ap (λ (n : ℕ). n % m) is ∙ (add-mod_right 0 m ∙ mod-eq_of_lt (omega arith)) in
      ap (λ (n : ℕ). n % m) all ∙ (add-mod_right x m ∙ ap (λ (n : ℕ). n % m) (let same : x ≡ (m - low) % m + x = omega arith in same))
]

-- all patterns below count have one answer, by how far 0 is above the range's first one
one_answer : (negated : Bool) (count g low span : ℕ) (answer : ℕ → Bool) → 0 < count → count ≤ g + 1 → low < g + 1 → span < g + 1 → ((x : ℕ) → x < count → answer x ≡ answer_of negated (nat_le ((x + (g + 1 - low)) % (g + 1)) span))
    → (let first = (g + 1 - low) % (g + 1) in list_all (λ x. beq (answer x) (answer 0)) (range_with_len 0 count) ≡ (if nat_le first span then nat_eq span g || nat_le (count - 1) (span - first) else nat_le (count - 1) (g - first)))
one_answer negated count g low span answer some few small long each =
    let first = (g + 1 - low) % (g + 1) in
    let at : first < g + 1 = mod_below (g + 1 - low) (g + 1) (omega arith) in
    let far : (x : ℕ) → x < count → answer x ≡ answer_of negated (nat_le ((first + x) % (g + 1)) span) = λ (x : ℕ) (h : x < count). each x h ∙ ap (λ (n : ℕ). answer_of negated (nat_le n span)) (far_from (g + 1) low x small) in
    let inside : (x : ℕ) → x < count → (first + x) % (g + 1) ≤ span → answer x ≡ answer_of negated true = λ (x : ℕ) (h : x < count) (k : (first + x) % (g + 1) ≤ span). far x h ∙ ap (answer_of negated) (le-leb ((first + x) % (g + 1)) span k) in
    let outside : (x : ℕ) → x < count → span < (first + x) % (g + 1) → answer x ≡ answer_of negated false = λ (x : ℕ) (h : x < count) (k : span < (first + x) % (g + 1)). far x h ∙ ap (answer_of negated) (lt-leb ((first + x) % (g + 1)) span k) in
    let plain : (x : ℕ) → first + x < g + 1 → (first + x) % (g + 1) ≡ first + x = λ (x : ℕ) (h : first + x < g + 1). mod-eq_of_lt h in
    let start : (first + 0) % (g + 1) ≡ first = plain 0 (omega arith) ∙ (let none : first + 0 ≡ first = omega arith in none) in
    elim (cases_lt span first) [
      | inr in_zero ↦
          let here : answer 0 ≡ answer_of negated true = inside 0 some (rw start in_zero) in
          rw (le-leb first span in_zero) (elim (cases_eq span g) [
            | inl whole ↦ all_one count answer (answer_of negated true) some (λ x h. inside x h (let below = mod_below (first + x) (g + 1) (omega arith) in omega arith)) ∙ (rw (eq-eqb span g whole) refl)
            | inr part ↦ rw (ne_eqb span g part) (elim (cases_lt (span - first) (count - 1)) [
              | inr room ↦ all_one count answer (answer_of negated true) some (λ x h. inside x h (let is = plain x (omega arith) in omega arith)) ∙ (rw (le-leb (count - 1) (span - first) room) refl)
              | inl short ↦
                  let next = span + 1 - first in
                  let is = plain (span + 1 - first) (omega arith) in
                  let there : answer (span + 1 - first) ≡ answer_of negated false = outside (span + 1 - first) (omega arith) (omega arith) in
                  two_answers count answer (span + 1 - first) (omega arith) (rw (there, here) (beq_other negated)) ∙ (rw (lt-leb (count - 1) (span - first) short) refl)
            ])
          ])
      | inl out_zero ↦
          let here : answer 0 ≡ answer_of negated false = outside 0 some (rw start out_zero) in
          rw (lt-leb first span out_zero) (elim (cases_lt (g - first) (count - 1)) [
            | inr room ↦ all_one count answer (answer_of negated false) some (λ x h. outside x h (let is = plain x (omega arith) in omega arith)) ∙ (rw (le-leb (count - 1) (g - first) room) refl)
            | inl short ↦
                let round : first + (g + 1 - first) ≡ 0 + (g + 1) = omega arith in
                let is : (first + (g + 1 - first)) % (g + 1) ≡ 0 = ap (λ (n : ℕ). n % (g + 1)) round ∙ (add-mod_right 0 (g + 1) ∙ mod-eq_of_lt (omega arith)) in
                let there : answer (g + 1 - first) ≡ answer_of negated true = inside (g + 1 - first) (omega arith) (omega arith) in
                two_answers count answer (g + 1 - first) (omega arith) (rw (there, here) (other_beq negated)) ∙ (rw (lt-leb (count - 1) (g - first) short) refl)
          ])
    ]

pub few_bits : (t : PType) → bits_of_type t ≤ 64
few_bits U8 = omega arith
few_bits U16 = omega arith
few_bits U32 = omega arith
few_bits U64 = omega arith
few_bits I8 = omega arith
few_bits I16 = omega arith
few_bits I32 = omega arith
few_bits I64 = omega arith

-- the test of the first pattern's distance is the test of all patterns of the width
pub decided_by_patterns : (t : PType) (width : ℕ) (test : RangeTest) (patterns : PatternTest) → width < bits_of_type t → TestsPatterns t test patterns
    → (let first = (patterns.greatest + 1 - patterns.low) % (patterns.greatest + 1) in (if nat_le first patterns.span then nat_eq patterns.span patterns.greatest || nat_le (2 ^ width - 1) (patterns.span - first) else nat_le (2 ^ width - 1) (patterns.greatest - first)) ≡ is_decided t width (passes test))
unfolding is_decided
decided_by_patterns t width test patterns narrow tests =
    let most : 2 ^ width ≤ 2 ^ bits_of_type t = pow_mono {i = width} {j = bits_of_type t} (omega arith) in
    let size = tests.greatest in
    let low = tests.low in
    let span = tests.span in
    rw (lt-ltb width (bits_of_type t) narrow)
    (sym (one_answer patterns.negated (2 ^ width) patterns.greatest patterns.low patterns.span (λ x. passes test (pos x)) (pow_pos width) (omega arith) (omega arith) (omega arith)
    (λ x h. sym (tested_by t test patterns x (pos x) tests (omega arith) (read_small t width x narrow h)))))

-- a width of all bits decides nothing
pub native_undecided : (t : PType) (width : ℕ) (predicate : ℤ → Bool) → bits_of_type t ≤ width → is_decided t width predicate ≡ false
unfolding is_decided
native_undecided t width predicate whole = rw (le-ltb width (bits_of_type t) whole) refl

-- what a decided predicate answers
pub decided_answer : (t : PType) (width : ℕ) (predicate : ℤ → Bool) (x : ℕ) → is_decided t width predicate ≡ true → x < 2 ^ width → (width < bits_of_type t) × (predicate (pos x) ≡ predicate (pos 0))
unfolding is_decided
decided_answer t width predicate x decided small = elim (cases_lt width (bits_of_type t)) [
  | inr whole ↦ absurd (let none : is_decided t width predicate ≡ false = native_undecided t width predicate whole in cc)
  | inl narrow ↦
      let all : list_all (λ x. beq (predicate (pos x)) (predicate (pos 0))) (range_with_len 0 (2 ^ width)) ≡ true = rw (lt-ltb width (bits_of_type t) narrow) at decided in
      let size = length-range_with_len 0 (2 ^ width) in
      (narrow, beq_same (predicate (pos x)) (predicate (pos 0)) (rw (at_index (2 ^ width) x small) at (all_at (λ x. beq (predicate (pos x)) (predicate (pos 0))) (range_with_len 0 (2 ^ width)) x 0 all (omega arith))))
]
  where
    beq_same : (a b : Bool) → beq a b ≡ true → a ≡ b
    beq_same true true e = refl
    beq_same true false e = absurd cc
    beq_same false true e = absurd cc
    beq_same false false e = refl
