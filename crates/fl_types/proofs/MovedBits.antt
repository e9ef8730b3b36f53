-- Bits that are moved to the front of their words, and one that is put at an index.
use Rattle.std.proofs.Common.{◌≡◌, ◌≢◌, ℕ, ◌+◌, ◌-◌, ◌*◌, ◌/◌, ◌%◌, ◌^◌, ◌<◌, ◌≤◌, ◌==◌, List, Bool, length, get_or, set, take, refl, ap, sym, ◌∙◌, inl, inr, arith, add-zero, length-set}
use Rattle.std.specs.Int.{bit_at, bit_not, w64}
use Rattle.std.specs.Int.Bits.{bit_and, bit_or}
use Rattle.std.proofs.Math.Nat.{div-add-mod'}
use Rattle.std.proofs.lemmas.Bool.{cases_eq, cases_lt}
use Rattle.std.proofs.lemmas.Nat.{shr-shr, pow_pos}
use Rattle.std.proofs.lemmas.Nat.Bits.{bit_at_or, bit_at_above, bit_at_cat_low, bit_at_cat_high, bit_at-zero}
use Rattle.std.proofs.lemmas.List.{same_lists, get_or-set_same, get_or-set_other, get_or-take}
use Rattle.std.proofs.lemmas.List.FromFn.{get_or-map-range_with_len}
use Rattle.fl_types.specs.Bits.{bit_of_word, bits_from, first_bits, is_set}
use Rattle.fl_types.proofs.BitLists.{bit_left, is_set_in, is_set_out, is_set_at, length_first_bits, same_tables}

pub from_shift : (low shift j : ℕ) → bit_at (low / 2 ^ shift) j ≡ bit_at low (shift + j)
from_shift low shift j = ap (λ (n : ℕ). n % 2) (shr-shr low shift j)

pub below_shift : (x k j : ℕ) → j < k → bit_at (x * 2 ^ k) j ≡ 0
below_shift x k j h = ap (λ (n : ℕ). bit_at n j) (sym (add-zero (x * 2 ^ k))) ∙ (bit_at_cat_low x k 0 j h ∙ bit_at-zero j)

pub above_shift : (x k j : ℕ) → k ≤ j → bit_at (x * 2 ^ k) j ≡ bit_at x (j - k)
above_shift x k j h = ap (λ (n : ℕ). bit_at n j) (sym (add-zero (x * 2 ^ k))) ∙ bit_at_cat_high x k 0 j (pow_pos k) h

pub low_bit : (n w j : ℕ) → j < w → bit_at (n % 2 ^ w) j ≡ bit_at n j
low_bit n w j h = sym (bit_at_cat_low (n / 2 ^ w) w (n % 2 ^ w) j h) ∙ ap (λ (m : ℕ). bit_at m j) (div-add-mod' n (2 ^ w))

-- bit j of a word whose low bits are the high ones of `low`, and whose high bits are the low ones of `high`
joined_low : (low high shift j : ℕ) → shift < 64 → shift + j < 64 → bit_at (bit_or (low / 2 ^ shift) (high * 2 ^ (64 - shift) % 2 ^ 64)) j ≡ bit_at low (shift + j)
joined_low low high shift j s h =
    let joined = bit_at_or (low / 2 ^ shift) (high * 2 ^ (64 - shift) % 2 ^ 64) j in
    let first = from_shift low shift j in
    let cut = low_bit (high * 2 ^ (64 - shift)) 64 j (omega arith) in
    let none = below_shift high (64 - shift) j (omega arith) in
    omega arith

joined_high : (low high shift j : ℕ) → low < 2 ^ 64 → shift < 64 → j < 64 → 64 ≤ shift + j → bit_at (bit_or (low / 2 ^ shift) (high * 2 ^ (64 - shift) % 2 ^ 64)) j ≡ bit_at high (shift + j - 64)
joined_high low high shift j small s h k =
    let joined = bit_at_or (low / 2 ^ shift) (high * 2 ^ (64 - shift) % 2 ^ 64) j in
    let first = from_shift low shift j in
    let none = bit_at_above low 64 (shift + j) small k in
    let cut = low_bit (high * 2 ^ (64 - shift)) 64 j h in
    let from : j - (64 - shift) ≡ shift + j - 64 = omega arith in
    let second = above_shift high (64 - shift) j (omega arith) ∙ ap (bit_at high) from in
    omega arith

pub word_of_one : (words : List ℕ) (at j low : ℕ) → low ≡ get_or words (at / 64) 0 → at % 64 + j < 64 → bit_of_word (low / 2 ^ (at % 64)) j ≡ is_set words (at + j)
unfolding bit_of_word
word_of_one words at j low is h =
    let rest : (at + j) % 64 ≡ at % 64 + j = omega arith in
    ap (λ (n : ℕ). n == 1) (from_shift low (at % 64) j ∙ (ap (λ (n : ℕ). bit_at n (at % 64 + j)) is ∙ ap (λ (n : ℕ). bit_at (get_or words (at / 64) 0) n) (sym rest)))
    ∙ sym (is_set_at words (at + j) (at / 64) (omega arith))

pub word_of_two : (words : List ℕ) (at j low high : ℕ) → low ≡ get_or words (at / 64) 0 → high ≡ get_or words (at / 64 + 1) 0 → low < 2 ^ 64 → j < 64
    → bit_of_word (bit_or (low / 2 ^ (at % 64)) (high * 2 ^ (64 - at % 64) % 18446744073709551616)) j ≡ is_set words (at + j)
unfolding bit_of_word
word_of_two words at j low high is next small h = elim (cases_lt (at % 64 + j) 64) [
  | inl under ↦
      let rest : (at + j) % 64 ≡ at % 64 + j = omega arith in
      ap (λ (n : ℕ). n == 1) (joined_low low high (at % 64) j (omega arith) under ∙ (ap (λ (n : ℕ). bit_at n (at % 64 + j)) is ∙ ap (λ (n : ℕ). bit_at (get_or words (at / 64) 0) n) (sym rest)))
      ∙ sym (is_set_at words (at + j) (at / 64) (omega arith))
  | inr over ↦
      let rest : (at + j) % 64 ≡ at % 64 + j - 64 = omega arith in
      ap (λ (n : ℕ). n == 1) (joined_high low high (at % 64) j small (omega arith) h over ∙ (ap (λ (n : ℕ). bit_at n (at % 64 + j - 64)) next ∙ ap (λ (n : ℕ). bit_at (get_or words (at / 64 + 1) 0) n) (sym rest)))
      ∙ sym (is_set_at words (at + j) (at / 64 + 1) (omega arith))
]

-- one more word is moved
pub moved_more : (old words : List ℕ) (k start word len : ℕ) → k < length words → ((i : ℕ) → i < 64 * k → i < len → is_set words i ≡ is_set old (start + i)) → ((j : ℕ) → j < 64 → 64 * k + j < len → bit_of_word word j ≡ is_set old (start + (64 * k + j)))
    → (i : ℕ) → i < 64 * (k + 1) → i < len → is_set (set words k word) i ≡ is_set old (start + i)
moved_more old words k start word len room before here i h below = elim (cases_eq (i / 64) k) [
  | inl same ↦
      let place : 64 * k + i % 64 ≡ i = omega arith in
      is_set_in words word k i room same ∙ (here (i % 64) (omega arith) (omega arith) ∙ ap (λ (n : ℕ). is_set old (start + n)) place)
  | inr other ↦ is_set_out words word k i other ∙ before i (omega arith) below
]

pub kept_bits : (words : List ℕ) (k word i : ℕ) → k < i / 64 → is_set (set words k word) i ≡ is_set words i
kept_bits words k word i h = is_set_out words word k i (omega arith)

-- the first words hold the first bits
pub first_taken : (words old : List ℕ) (n start count : ℕ) → count ≡ (n + 63) / 64 → ((i : ℕ) → i < n → is_set words i ≡ is_set old (start + i)) → first_bits (take count words) n ≡ bits_from old start n
unfolding first_bits bits_from is_set
first_taken words old n start count is each =
    same_tables (is_set (take count words)) (λ i. is_set old (start + i)) n
    (λ i h. ap (λ (w : ℕ). bit_of_word w (i % 64)) (get_or-take count words (i / 64) 0 (omega arith)) ∙ each i h)

-- the bits of words of which one was put are those bits with it put
pub bits_put : (old new : List ℕ) (n i : ℕ) (bit : Bool) → i < n → is_set new i ≡ bit → ((j : ℕ) → j ≢ i → is_set new j ≡ is_set old j) → first_bits new n ≡ set (first_bits old n) i bit
unfolding first_bits
bits_put old new n i bit h here others =
    let size = length_first_bits old n in
    same_lists (first_bits new n) (set (first_bits old n) i bit) (length_first_bits new n ∙ (sym (length_first_bits old n) ∙ sym (length-set (first_bits old n) i bit)))
    (λ k d below.
    let inside : k < n = let long = length_first_bits new n in omega arith in
    get_or-map-range_with_len (is_set new) 0 n k k d inside (omega arith) ∙ elim (cases_eq k i) [
      | inl same ↦ rw same (here ∙ sym (get_or-set_same (first_bits old n) i bit d (omega arith)))
      | inr other ↦ others k other ∙ (sym (get_or-map-range_with_len (is_set old) 0 n k k d inside (omega arith)) ∙ sym (get_or-set_other (first_bits old n) i k bit d other))
    ])

-- the bit at its place
pub put_here : (words : List ℕ) (i word : ℕ) (bit : Bool) → i / 64 < length words → bit_of_word word (i % 64) ≡ bit → is_set (set words (i / 64) word) i ≡ bit
put_here words i word bit room is = is_set_in words word (i / 64) i room refl ∙ is

pub put_others : (words : List ℕ) (i j old word : ℕ) → i / 64 < length words → j ≢ i → old ≡ get_or words (i / 64) 0
    → ((t : ℕ) → t ≢ i % 64 → bit_of_word word t ≡ bit_of_word (bit_and old (bit_not w64 (1 * 2 ^ (i % 64) % 18446744073709551616))) t) → is_set (set words (i / 64) word) j ≡ is_set words j
put_others words i j old word room away is kept = elim (cases_eq (j / 64) (i / 64)) [
  | inl same ↦
      let apart : j % 64 ≢ i % 64 = omega arith in
      is_set_in words word (i / 64) j room same ∙ (kept (j % 64) apart ∙ (bit_left old (i % 64) (j % 64) (omega arith) (omega arith) apart ∙ (ap (λ (w : ℕ). bit_of_word w (j % 64)) is ∙ sym (is_set_at words j (i / 64) same))))
  | inr other ↦ is_set_out words word (i / 64) j other
]
