-- Numbers that are shifted, and their bits.
use Rattle.std.proofs.Common.{◌≡◌, ℕ, ◌+◌, ◌-◌, ◌*◌, ◌/◌, ◌%◌, ◌^◌, ◌<◌, ◌≤◌, ◌∙◌, ap, sym, arith, add-zero}
use Rattle.std.specs.Prelude.{if◌then◌else◌, nat_lt}
use Rattle.std.specs.Int.{bit_at}
use Rattle.std.proofs.lemmas.Nat.{shr-shr, pow_pos}
use Rattle.std.proofs.Math.Pow.{pow_mono}
use Rattle.std.proofs.lemmas.Nat.Bits.{ones_shr, bit_at_cat_low, bit_at_cat_high, bit_at-zero}

-- bit i of the item whose bits begin at bit shift of the word low, and go on in the word high
unfoldable pub spread_bit : ℕ → ℕ → ℕ → ℕ → ℕ → ℕ
spread_bit T shift low high i = if nat_lt (shift + i) T then bit_at low (shift + i) else bit_at high (shift + i - T)

-- a shift to the left by k
pub shifted_low : (x k i : ℕ) → i < k → bit_at (x * 2 ^ k) i ≡ 0
shifted_low x k i h = ap (λ (n : ℕ). bit_at n i) (sym (add-zero (x * 2 ^ k))) ∙ (bit_at_cat_low x k 0 i h ∙ bit_at-zero i)

pub shifted_high : (x k i : ℕ) → k ≤ i → bit_at (x * 2 ^ k) i ≡ bit_at x (i - k)
shifted_high x k i h = ap (λ (n : ℕ). bit_at n i) (sym (add-zero (x * 2 ^ k))) ∙ bit_at_cat_high x k 0 i (pow_pos k) h

-- the mask
pub mask_is : (T width : ℕ) → width ≤ T → (2 ^ T - 1) / 2 ^ (T - width) ≡ 2 ^ width - 1
mask_is T width w = let e : T - (T - width) ≡ width = omega arith in let le : T - width ≤ T = omega arith in ones_shr T (T - width) le ∙ ap (λ (n : ℕ). 2 ^ n - 1) e

-- the mask is a word
pub mask_below : (T width : ℕ) → width ≤ T → 2 ^ width - 1 < 2 ^ T
mask_below T width w = let more : 2 ^ width ≤ 2 ^ T = pow_mono w in omega (arith, pow_pos width)

-- the part of the first word
pub begun_bit : (low shift i : ℕ) → bit_at (low / 2 ^ shift) i ≡ bit_at low (shift + i)
begun_bit low shift i = ap (λ (n : ℕ). n % 2) (shr-shr low shift i)
