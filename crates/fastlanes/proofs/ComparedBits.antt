-- Answers that are put one above the other.
use Rattle.std.proofs.Common.{◌≡◌, ℕ, ◌+◌, ◌-◌, ◌*◌, ◌%◌, ◌^◌, ◌<◌, ◌∙◌, ap, arith, refl, add_comm, inl, inr, Bool, true, false}
use Rattle.std.specs.Prelude.{nat_eq, bit_or}
use Rattle.std.specs.Int.{bit_at}
use Rattle.std.proofs.lemmas.Bool.{cases_eq}
use Rattle.std.proofs.lemmas.Nat.{or_comm, or_shifted, pow_pos}
use Rattle.std.proofs.lemmas.Nat.Bits.{bit_at_cat_low, bit_at_cat_high, bit_at_lowest}
use Rattle.fastlanes.specs.Layout.{bit_value}
use Rattle.fastlanes.specs.Compared.{is_bit_set, IsAnswer, Compares}
use Rattle.fastlanes.proofs.BitSums.{bits_fit, bit_value_small}

bit_below : (n r s y : ℕ) (on : Bool) → n < 2 ^ r → y ≡ n + bit_value on * 2 ^ r → s < r → is_bit_set y s ≡ is_bit_set n s
unfolding is_bit_set
bit_below n r s y on small e h = rw (e, add_comm n (bit_value on * 2 ^ r)) (ap (λ (m : ℕ). nat_eq m 1) (bit_at_cat_low (bit_value on) r n s h))

value_back : (on : Bool) → nat_eq (bit_value on % 2) 1 ≡ on
value_back true = refl
value_back false = refl

bit_there : (n r y : ℕ) (on : Bool) → n < 2 ^ r → y ≡ n + bit_value on * 2 ^ r → is_bit_set y r ≡ on
unfolding is_bit_set
bit_there n r y on small e =
    let none : r - r ≡ 0 = omega arith in
    rw (e, add_comm n (bit_value on * 2 ^ r)) (ap (λ (m : ℕ). nat_eq m 1) (bit_at_cat_high (bit_value on) r n r small (omega arith) ∙ (ap (bit_at (bit_value on)) none ∙ bit_at_lowest (bit_value on))) ∙ value_back on)

pub zero_below : (n r : ℕ) → n ≡ 0 → n < 2 ^ r
zero_below n r e = rw e (pow_pos r)

-- the only bit of a number
pub lone_bit : (n r y : ℕ) (on : Bool) → n ≡ 0 → y ≡ n + bit_value on * 2 ^ r → (is_bit_set y r ≡ on) × (y ≡ bit_value (is_bit_set y r) * 2 ^ r)
lone_bit n r y on none e =
    let there = bit_there n r y on (zero_below n r none) e in
    let alone : y ≡ bit_value on * 2 ^ r = omega arith in
    (there, rw there alone)

or_above : (n r : ℕ) (on : Bool) → n < 2 ^ r → bit_or n (bit_value on * 2 ^ r) ≡ n + bit_value on * 2 ^ r
or_above n r on h =
    let e : bit_or (bit_value on * 2 ^ r) n ≡ n + bit_value on * 2 ^ r = or_shifted (bit_value on) r n h ∙ add_comm (bit_value on * 2 ^ r) n in
    rw or_comm e

pub answers_none : {W : Type 0} (pattern : W → ℕ) (post : W → W → Bool → Type 0) (rhs : W) (item : ℕ → ℕ → ℕ) (g : ℕ) (lane : ℕ → ℕ)
    → ((j : ℕ) → j < 16 → lane j ≡ 0) → Compares pattern post rhs item g 0 lane
answers_none pattern post rhs item g lane none = record {
  small = λ j h. zero_below (lane j) 0 (none j h);
  each = λ s j p h. absurd (omega arith);
}

-- the answers for one more row
pub answers_more : {W : Type 0} (pattern : W → ℕ) (post : W → W → Bool → Type 0) (rhs : W) (item : ℕ → ℕ → ℕ) (g r : ℕ) (answers row set new : ℕ → ℕ)
    → Compares pattern post rhs item g r answers → ((j : ℕ) → j < 16 → row j ≡ item r (16 * g + j))
    → ((j : ℕ) → j < 16 → set j ≡ bit_value (is_bit_set (set j) r) * 2 ^ r) → ((j : ℕ) → j < 16 → IsAnswer pattern post rhs (row j) (is_bit_set (set j) r))
    → ((j : ℕ) → j < 16 → new j ≡ bit_or (answers j) (set j)) → Compares pattern post rhs item g (r + 1) new
answers_more pattern post rhs item g r answers row set new before row_is alone answered joined = record {
  small = λ j h. rw (above j h) (bits_fit (answers j) (bit_value (is_bit_set (set j) r)) r (before.small j h) (bit_value_small (is_bit_set (set j) r)));
  each = λ s j p h. elim (cases_eq s r) [
    | inl same ↦ rw (same, bit_there (answers j) r (new j) (is_bit_set (set j) r) (before.small j h) (above j h)) (rw row_is at (answered j h))
    | inr other ↦ let lower : s < r = omega arith in rw (bit_below (answers j) r s (new j) (is_bit_set (set j) r) (before.small j h) (above j h) lower) (before.each s j lower h)
  ];
}
  where
    above : (j : ℕ) → j < 16 → new j ≡ answers j + bit_value (is_bit_set (set j) r) * 2 ^ r
    above j h = joined j h ∙ (ap (bit_or (answers j)) (alone j h) ∙ or_above (answers j) r (is_bit_set (set j) r) (before.small j h))
