-- The bits of words that are made of bytes.
use Rattle.std.proofs.Common.{◌≡◌, ℕ, zero, suc, ◌+◌, ◌-◌, ◌*◌, ◌/◌, ◌%◌, ◌^◌, ◌<◌, ◌∙◌, ap, sym, arith, refl, inl, inr, List, lit<}
use Rattle.std.specs.Prelude.{slice_index, nat_eq}
use Rattle.fastlanes.specs.Compared.{is_bit_set, has_bit}
use Rattle.std.specs.Int.{bit_at}
use Rattle.std.proofs.lemmas.Bool.{cases_lt}
use Rattle.std.proofs.lemmas.Nat.{pow-add, mul-add-lt}
use Rattle.std.proofs.lemmas.Nat.Bits.{bit_at_cat_low, bit_at_cat_high}
use Rattle.std.proofs.Math.Numerals.{add-one}
use Rattle.fastlanes.specs.Layout.{le_sum, word_at, IsWordWidth, bits_8, bits_16, bits_32, bits_64}

power : (n : ℕ) → 256 ^ n ≡ 2 ^ (8 * n)
power zero = refl
power (suc n) =
    let next : 8 * suc n ≡ 8 * n + 8 = omega arith in
    let before = power n in
    let more : 256 ^ (n + 1) ≡ 256 ^ n * 256 = pow-add 256 n 1 in
    let more' : 256 ^ suc n ≡ 256 ^ n * 256 = rw add-one at more in
    rw (next, pow-add 2 (8 * n) 8) (more' ∙ ap (λ (m : ℕ). m * 256) before)

sum_small : (byte : ℕ → ℕ) → ((i : ℕ) → byte i < 256) → (n : ℕ) → le_sum byte n < 2 ^ (8 * n)
sum_small byte small zero = lit< tt
sum_small byte small (suc n) =
    let below = sum_small byte small n in
    let next : 8 * suc n ≡ 8 * n + 8 = omega arith in
    let more : byte n * 2 ^ (8 * n) + le_sum byte n < 2 ^ (8 * n) * 2 ^ 8 = mul-add-lt (byte n) (2 ^ (8 * n)) (le_sum byte n) (2 ^ 8) (small n) below in
    rw (next, pow-add 2 (8 * n) 8, power n) (omega arith)

-- a bit of such a sum is a bit of a byte
pub sum_bit : (byte : ℕ → ℕ) → ((i : ℕ) → byte i < 256) → (n t : ℕ) → t < 8 * n → bit_at (le_sum byte n) t ≡ bit_at (byte (t / 8)) (t % 8)
sum_bit byte small zero t h = absurd (omega arith)
sum_bit byte small (suc n) t h =
    let order : le_sum byte n + 256 ^ n * byte n ≡ byte n * 2 ^ (8 * n) + le_sum byte n = rw (power n) (omega arith) in
    ap (λ (m : ℕ). bit_at m t) order ∙ elim (cases_lt t (8 * n)) [
      | inl under ↦ bit_at_cat_low (byte n) (8 * n) (le_sum byte n) t under ∙ sum_bit byte small n t under
      | inr over ↦
          let here : t / 8 ≡ n = omega arith in
          let there : t - 8 * n ≡ t % 8 = omega arith in
          bit_at_cat_high (byte n) (8 * n) (le_sum byte n) t (sum_small byte small n) over ∙ rw (here, there) refl
    ]

-- bit r of word k is bit k * T + r of the bytes
pub word_bit : (T lanes : ℕ) (bytes : List ℕ) (k r : ℕ) → IsWordWidth T lanes → ((i : ℕ) → slice_index bytes i < 256) → r < T
    → bit_at (word_at T bytes k) r ≡ bit_at (slice_index bytes ((k * T + r) / 8)) ((k * T + r) % 8)
word_bit T lanes bytes k r shape small h =
    let eights = whole T lanes shape in
    let here : k * (T / 8) + r / 8 ≡ (k * T + r) / 8 = place T lanes k r shape in
    let there : r % 8 ≡ (k * T + r) % 8 = left T lanes k r shape in
    sum_bit (λ i. slice_index bytes (k * (T / 8) + i)) (λ i. small (k * (T / 8) + i)) (T / 8) r (omega arith) ∙ rw (here, there) refl
  where
    whole : (T lanes : ℕ) → IsWordWidth T lanes → 8 * (T / 8) ≡ T
    whole _ _ bits_8 = refl
    whole _ _ bits_16 = refl
    whole _ _ bits_32 = refl
    whole _ _ bits_64 = refl

    place : (T lanes k r : ℕ) → IsWordWidth T lanes → k * (T / 8) + r / 8 ≡ (k * T + r) / 8
    place _ _ k r bits_8 = omega arith
    place _ _ k r bits_16 = omega arith
    place _ _ k r bits_32 = omega arith
    place _ _ k r bits_64 = omega arith

    left : (T lanes k r : ℕ) → IsWordWidth T lanes → r % 8 ≡ (k * T + r) % 8
    left _ _ k r bits_8 = omega arith
    left _ _ k r bits_16 = omega arith
    left _ _ k r bits_32 = omega arith
    left _ _ k r bits_64 = omega arith

-- bit r of word k of T bits is the same bit of the words of 64 bits
pub same_bit : (T lanes : ℕ) (bytes : List ℕ) (k r : ℕ) → IsWordWidth T lanes → ((i : ℕ) → slice_index bytes i < 256) → r < T
    → bit_at (word_at T bytes k) r ≡ bit_at (word_at 64 bytes ((k * T + r) / 64)) ((k * T + r) % 64)
same_bit T lanes bytes k r shape small h =
    let whole : (k * T + r) / 64 * 64 + (k * T + r) % 64 ≡ k * T + r = omega arith in
    word_bit T lanes bytes k r shape small h ∙ sym (word_bit 64 16 bytes ((k * T + r) / 64) ((k * T + r) % 64) bits_64 small (omega arith) ∙ rw whole refl)

pub bit_kept : (T lanes : ℕ) (bytes words : List ℕ) (k r : ℕ) → IsWordWidth T lanes → ((i : ℕ) → slice_index bytes i < 256) → r < T → k < lanes
    → ((i : ℕ) → i < 16 → slice_index words i ≡ word_at 64 bytes i) → is_bit_set (word_at T bytes k) r ≡ has_bit words (k * T + r)
unfolding is_bit_set has_bit
bit_kept T lanes bytes words k r shape small h q same =
    let room : (k * T + r) / 64 < 16 = inside T lanes k r shape h q in
    rw (same ((k * T + r) / 64) room) (ap (λ (n : ℕ). nat_eq n 1) (same_bit T lanes bytes k r shape small h))
  where
    inside : (T lanes k r : ℕ) → IsWordWidth T lanes → r < T → k < lanes → (k * T + r) / 64 < 16
    inside _ _ k r bits_8 h q = omega arith
    inside _ _ k r bits_16 h q = omega arith
    inside _ _ k r bits_32 h q = omega arith
    inside _ _ k r bits_64 h q = omega arith
