-- Integers in texts, and those of a type.
use Rattle.std.proofs.Common.{◌≡◌, ◌≢◌, ℕ, ℤ, pos, negsuc, neg_ℤ, ◌-◌, ◌^◌, ◌%◌, ◌<◌, ◌≤◌, zero, suc, Bool, true, false, cond, List, ◌∷◌, None, Some, unsigned_abs, arith, refl, sym}
use Rattle.std.specs.Prelude.{Option, option_map, option_and_then, nat_lt, nat_le}
use Rattle.std.specs.Int.{int_rem_euclid}
use Rattle.std.proofs.Math.Nat.{mod-lt}
use Rattle.std.proofs.lemmas.Bool.{ne_eqb}
use Rattle.std.proofs.lemmas.Bool.Decides.{Decides-int_eq, nat_tests}
use Rattle.fl_types.specs.declared.dtype.PType.{PType}
use Rattle.fl_types.specs.declared.dtype.PType.TheVariants.{U8, U16, U32, U64, I8, I16, I32, I64}
use Rattle.fl_types.specs.Integers.{fits, wrap}
use Rattle.flcol_engine.specs.Text.{number_in_digits, number_up_to, integer_of_64_bits}

-- ---- the range of a type
-- a remainder that is the number itself
below_modulus : (m : ℕ) (z : ℤ) → 0 < m → int_rem_euclid z (pos m) ≡ z → unsigned_abs z < m
below_modulus m (pos a) some e = let small = mod-lt a some in let same : a % m ≡ a = cc in omega arith
below_modulus m (negsuc a) some e = cc

-- a pattern that is read as itself or as m below itself
below_half : (m half k : ℕ) → 0 < half → half < m → k < m → unsigned_abs (cond (nat_lt k half) (pos k) (negsuc (m - suc k))) < m
below_half m half k some less small = at_test (nat_lt k half) (λ e. grind (arith, nat_tests))
  where
    at_test : (low : Bool) → (low ≡ false → half ≤ k) → unsigned_abs (cond low (pos k) (negsuc (m - suc k))) < m
    at_test true high = small
    at_test false high = let above = high refl in omega arith

remainder_small : (m : ℕ) (z : ℤ) → 0 < m → unsigned_abs (int_rem_euclid z (pos m)) < m
remainder_small m (pos a) some = mod-lt a some
remainder_small m (negsuc a) some = let small = mod-lt a some in omega arith

signed_small : (m half : ℕ) (z : ℤ) → 0 < half → half < m
    → cond (nat_lt (unsigned_abs (int_rem_euclid z (pos m))) half) (pos (unsigned_abs (int_rem_euclid z (pos m)))) (negsuc (m - suc (unsigned_abs (int_rem_euclid z (pos m))))) ≡ z → unsigned_abs z < m
signed_small m half z some less e = rw (← e) (below_half m half (unsigned_abs (int_rem_euclid z (pos m))) some less (remainder_small m z (omega arith)))

-- no type has an integer of more than 64 bits
pub fits_small : (ptype : PType) (z : ℤ) → fits ptype z ≡ true → unsigned_abs z < 2 ^ 64
fits_small ptype z e = wrapped_small ptype z ((Decides-int_eq (wrap ptype z) z).0 e)
  where
    wrapped_small : (ptype : PType) (z : ℤ) → wrap ptype z ≡ z → unsigned_abs z < 2 ^ 64
    wrapped_small U8 z e = let small = below_modulus (2 ^ 8) z (omega arith) e in omega arith
    wrapped_small U16 z e = let small = below_modulus (2 ^ 16) z (omega arith) e in omega arith
    wrapped_small U32 z e = let small = below_modulus (2 ^ 32) z (omega arith) e in omega arith
    wrapped_small U64 z e = below_modulus (2 ^ 64) z (omega arith) e
    wrapped_small I8 z e = let small = signed_small (2 ^ 8) (2 ^ 7) z (omega arith) (omega arith) e in omega arith
    wrapped_small I16 z e = let small = signed_small (2 ^ 16) (2 ^ 15) z (omega arith) (omega arith) e in omega arith
    wrapped_small I32 z e = let small = signed_small (2 ^ 32) (2 ^ 31) z (omega arith) (omega arith) e in omega arith
    wrapped_small I64 z e = signed_small (2 ^ 64) (2 ^ 63) z (omega arith) (omega arith) e

-- ---- the integer of a text
within : (n : ℕ) → nat_lt n (2 ^ 64) ≡ nat_le n (2 ^ 64 - 1)
within n = at_tests (nat_lt n (2 ^ 64)) (nat_le n (2 ^ 64 - 1)) (λ e. grind (arith, nat_tests)) (λ e. grind (arith, nat_tests))
  where
    at_tests : (p q : Bool) → (p ≡ true → q ≡ true) → (q ≡ true → p ≡ true) → p ≡ q
    at_tests true q to from = sym (to refl)
    at_tests false true to from = from refl
    at_tests false false to from = refl

-- a bound on the number is one on the integer, with a minus or not
signed : (sign : ℕ → ℤ) → ((n : ℕ) → unsigned_abs (sign n) ≡ n) → (o : Option ℕ)
    → option_and_then (λ z. cond (nat_lt (unsigned_abs z) (2 ^ 64)) (Some z) None) (option_map sign o) ≡ option_map sign (option_and_then (λ n. cond (nat_le n (2 ^ 64 - 1)) (Some n) None) o)
signed sign same None = refl
signed sign same (Some n) = rw (same n, within n) (at_test (nat_le n (2 ^ 64 - 1)))
  where
    at_test : (b : Bool) → cond b (Some (sign n)) None ≡ option_map sign (cond b (Some n) None)
    at_test true = refl
    at_test false = refl

minus_size : (n : ℕ) → unsigned_abs (neg_ℤ (pos n)) ≡ n
minus_size zero = refl
minus_size (suc n) = refl

-- digits behind a minus
pub minus_read : (digits : List ℕ) → integer_of_64_bits (45 ∷ digits) ≡ option_map (λ n. neg_ℤ (pos n)) (number_up_to (2 ^ 64 - 1) digits)
minus_read digits = signed (λ n. neg_ℤ (pos n)) minus_size (number_in_digits digits)

-- digits alone
pub plain_read : (b : ℕ) (bs : List ℕ) → b ≢ 45 → integer_of_64_bits (b ∷ bs) ≡ option_map (λ n. pos n) (number_up_to (2 ^ 64 - 1) (b ∷ bs))
plain_read b bs other = rw (ne_eqb b 45 other) (signed (λ n. pos n) (λ n. refl) (number_in_digits (b ∷ bs)))

-- ---- the integer of a type
-- an integer that lies within 64 bits is the text's
pub within_read : (o : Option ℤ) (z : ℤ) → option_and_then (λ z. cond (nat_lt (unsigned_abs z) (2 ^ 64)) (Some z) None) o ≡ Some z → o ≡ Some z
within_read None z e = cc
within_read (Some y) z e = at_test (nat_lt (unsigned_abs y) (2 ^ 64)) e
  where
    at_test : (b : Bool) → cond b (Some y) None ≡ Some z → Some y ≡ Some z
    at_test true e = e
    at_test false e = cc

-- one that doesn't is of no type
pub beyond_read : (ptype : PType) (o : Option ℤ) → option_and_then (λ z. cond (nat_lt (unsigned_abs z) (2 ^ 64)) (Some z) None) o ≡ None → option_and_then (λ z. cond (fits ptype z) (Some z) None) o ≡ None
beyond_read ptype None e = refl
beyond_read ptype (Some y) e = at_test (fits ptype y) refl
  where
    small : fits ptype y ≡ true → nat_lt (unsigned_abs y) (2 ^ 64) ≡ true
    small fit = let less = fits_small ptype y fit in grind (arith, nat_tests)

    at_test : (b : Bool) → fits ptype y ≡ b → cond b (Some y) None ≡ None
    at_test true fit = absurd (let some = rw (small fit) at e in cc)
    at_test false fit = refl
