-- Bits of bytes that are joined.
use Rattle.std.proofs.Common.{◌≡◌, ℕ, zero, suc, ◌+◌, ◌-◌, ◌%◌, ◌<◌, ◌==◌, ◌&&◌, ◌||◌, true, not, min, max, bit_and, bit_or, refl, ap, ◌∙◌, arith}
use Rattle.std.specs.Bool.{beq}
use Rattle.std.specs.Int.{bit_at, w8}
use Rattle.std.specs.Int.Bits.{bit_xor}
use Rattle.std.proofs.lemmas.Nat.Bits.{bit_at-lt, bit_at_and, bit_at_not, bit_at_ones, bit_at_or, bit_at_xor}
use Rattle.fl_types.specs.Bits.{bit_of_word}

test_and : (x y : ℕ) → x < 2 → y < 2 → (min x y == 1) ≡ (x == 1 && y == 1)
test_and zero zero h k = refl
test_and zero (suc zero) h k = refl
test_and (suc zero) zero h k = refl
test_and (suc zero) (suc zero) h k = refl
test_and (suc (suc x)) y h k = absurd (omega arith)
test_and x (suc (suc y)) h k = absurd (omega arith)

test_or : (x y : ℕ) → x < 2 → y < 2 → (max x y == 1) ≡ (x == 1 || y == 1)
test_or zero zero h k = refl
test_or zero (suc zero) h k = refl
test_or (suc zero) zero h k = refl
test_or (suc zero) (suc zero) h k = refl
test_or (suc (suc x)) y h k = absurd (omega arith)
test_or x (suc (suc y)) h k = absurd (omega arith)

test_xor : (x y : ℕ) → x < 2 → y < 2 → ((x + y) % 2 == 1) ≡ not (beq (x == 1) (y == 1))
test_xor zero zero h k = refl
test_xor zero (suc zero) h k = refl
test_xor (suc zero) zero h k = refl
test_xor (suc zero) (suc zero) h k = refl
test_xor (suc (suc x)) y h k = absurd (omega arith)
test_xor x (suc (suc y)) h k = absurd (omega arith)

test_not : (x : ℕ) → x < 2 → (1 - x == 1) ≡ not (x == 1)
test_not zero h = refl
test_not (suc zero) h = refl
test_not (suc (suc x)) h = absurd (omega arith)

pub of_and : (a b j : ℕ) → bit_of_word (bit_and a b) j ≡ (bit_of_word a j && bit_of_word b j)
unfolding bit_of_word
of_and a b j = ap (λ (n : ℕ). n == 1) (bit_at_and a b j) ∙ test_and (bit_at a j) (bit_at b j) (bit_at-lt a j) (bit_at-lt b j)

pub of_or : (a b j : ℕ) → bit_of_word (bit_or a b) j ≡ (bit_of_word a j || bit_of_word b j)
unfolding bit_of_word
of_or a b j = ap (λ (n : ℕ). n == 1) (bit_at_or a b j) ∙ test_or (bit_at a j) (bit_at b j) (bit_at-lt a j) (bit_at-lt b j)

pub of_xor : (a b j : ℕ) → bit_of_word (bit_xor a b) j ≡ not (beq (bit_of_word a j) (bit_of_word b j))
unfolding bit_of_word
of_xor a b j = ap (λ (n : ℕ). n == 1) (bit_at_xor a b j) ∙ test_xor (bit_at a j) (bit_at b j) (bit_at-lt a j) (bit_at-lt b j)

-- a byte that is turned
pub of_not : (a j : ℕ) → a < 256 → j < 8 → bit_of_word (255 - a) j ≡ not (bit_of_word a j)
unfolding bit_of_word
of_not a j small h = ap (λ (n : ℕ). n == 1) (bit_at_not w8 a j small h) ∙ test_not (bit_at a j) (bit_at-lt a j)

-- each bit of 255 is set
pub all_known : (j : ℕ) → j < 8 → bit_of_word 255 j ≡ true
unfolding bit_of_word
all_known j h = ap (λ (n : ℕ). n == 1) (bit_at_ones 8 j h)
