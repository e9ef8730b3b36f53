-- Lists whose bits are all set, or all not.
use Rattle.std.proofs.Common.{inl, inr, ◌≡◌, ◌≢◌, ℕ, zero, suc, ◌+◌, ◌-◌, ◌*◌, ◌^◌, ◌<◌, ◌≤◌, ◌&&◌, List, [], ◌∷◌, Bool, true, false, length, get_or, refl, ap, sym, ◌∙◌, arith}
use Rattle.std.specs.Bool.{beq}
use Rattle.std.specs.List.{list_all}
use Rattle.std.proofs.lemmas.Bool.{cases_lt}
use Rattle.std.proofs.lemmas.List.{get_or_past}
use Rattle.fl_types.specs.Bits.{bit_of_word}
use Rattle.fl_types.proofs.WordBits.{same_words}

beq_same : (a : Bool) → beq a a ≡ true
beq_same true = refl
beq_same false = refl

-- each bit is the one that all are
each_bit : (bit : Bool) (bits : List Bool) (i : ℕ) → list_all (beq bit) bits ≡ true → i < length bits → get_or bits i false ≡ bit
each_bit bit [] i all h = absurd (omega arith)
each_bit true (true ∷ bits) zero all h = refl
each_bit true (true ∷ bits) (suc i) all h = each_bit true bits i all (omega arith)
each_bit true (false ∷ bits) i all h = absurd (false_true all)
  where
    false_true : false ≡ true → ⊥
    false_true e = cc
each_bit false (false ∷ bits) zero all h = refl
each_bit false (false ∷ bits) (suc i) all h = each_bit false bits i all (omega arith)
each_bit false (true ∷ bits) i all h = absurd (false_true all)
  where
    false_true : false ≡ true → ⊥
    false_true e = cc

-- all bits are the one that each is
pub all_bits : (bit : Bool) (bits : List Bool) (n : ℕ) → length bits ≤ n → ((i : ℕ) → i < n → i < length bits → get_or bits i false ≡ bit) → true ≡ list_all (beq bit) bits
all_bits bit [] n h each = refl
all_bits bit (b ∷ bits) zero h each = absurd (omega arith)
all_bits bit (b ∷ bits) (suc n) h each =
    let first : true ≡ beq bit b = sym (ap (beq bit) (each 0 (omega arith) (omega arith)) ∙ beq_same bit) in
    all_bits bit bits n (omega arith) (λ i h k. each (suc i) (omega arith) (omega arith)) ∙ ap (λ t. t && list_all (beq bit) bits) first

-- a word that differs from that of such bits
pub other_word : (bit : Bool) (bits : List Bool) (k word all : ℕ) → word < 2 ^ 64 → all < 2 ^ 64 → ((j : ℕ) → j < 64 → bit_of_word word j ≡ get_or bits (64 * k + j) false) → ((j : ℕ) → j < 64 → j < length bits - 64 * k → bit_of_word all j ≡ bit)
    → ((j : ℕ) → length bits - 64 * k ≤ j → bit_of_word all j ≡ false) → word ≢ all → false ≡ list_all (beq bit) bits
other_word bit bits k word all small few here low clear differ = not_true (list_all (beq bit) bits) (λ e. differ (same_words word all small few (λ j h. elim (cases_lt j (length bits - 64 * k)) [
  | inl below ↦ here j h ∙ each_bit bit bits (64 * k + j) e (omega arith) ∙ sym (low j h below)
  | inr above ↦ here j h ∙ get_or_past bits (64 * k + j) false (omega arith) ∙ sym (clear j above)
])))
  where
    not_true : (r : Bool) → (r ≡ true → ⊥) → false ≡ r
    not_true true h = absurd (h refl)
    not_true false h = refl

-- one more word is such a one
pub one_more_word : (bit : Bool) (bits : List Bool) (k word all : ℕ) → ((j : ℕ) → j < 64 → bit_of_word word j ≡ get_or bits (64 * k + j) false) → ((j : ℕ) → j < 64 → j < length bits - 64 * k → bit_of_word all j ≡ bit) → word ≡ all
    → ((i : ℕ) → i < 64 * k → i < length bits → get_or bits i false ≡ bit) → (i : ℕ) → i < 64 * (k + 1) → i < length bits → get_or bits i false ≡ bit
one_more_word bit bits k word all here low same before i h within = elim (cases_lt i (64 * k)) [
  | inl below ↦ before i below within
  | inr above ↦
      let place : 64 * k + (i - 64 * k) ≡ i = omega arith in
      ap (λ (m : ℕ). get_or bits m false) (sym place) ∙ sym (here (i - 64 * k) (omega arith)) ∙ ap (λ (w : ℕ). bit_of_word w (i - 64 * k)) same ∙ low (i - 64 * k) (omega arith) (omega arith)
]
