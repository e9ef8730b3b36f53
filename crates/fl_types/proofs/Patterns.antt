-- Bit patterns of integers.
use Rattle.std.proofs.Common.{◌≡◌, ◌<◌, ◌-◌, ◌^◌, ◌%◌, ℕ, ℤ, pos, negsuc, suc, Bool, true, false, cond, nat_lt, unsigned_abs, IsTrue, refl, ap, sym, ◌∙◌, arith}
use Rattle.std.proofs.Math.Nat.{mod-eq_of_lt, mod-mod, mod-lt}
use Rattle.std.specs.Int.{w8, w16, w32, w64, cast_signed, int_rem_euclid}
use Rattle.std.proofs.lemmas.Bool.Decides.{Decides-int_eq}
use Rattle.fl_types.specs.declared.dtype.PType.{PType}
use Rattle.fl_types.specs.declared.dtype.PType.TheVariants.{U8, U16, U32, U64, I8, I16, I32, I64}
use Rattle.fl_types.specs.Integers.{bits_of_type, fits, pattern_of, read_as, wrap}

pub ruleset patterns = (mod-eq_of_lt)

-- the remainder of a remainder
kept : (m : ℕ) (z : ℤ) → 0 < m → int_rem_euclid (pos (unsigned_abs (int_rem_euclid z (pos m)))) (pos m) ≡ int_rem_euclid z (pos m)
kept m (pos a) some = ap pos (mod-mod a m)
kept m (negsuc a) some = ap pos (mod-eq_of_lt (let small = mod-lt a some in omega arith))

-- what is left of what is left of a number, read as the type
wrapped_again : (t : PType) (z : ℤ) → read_as t (pattern_of t z) ≡ wrap t z
wrapped_again U8 z = kept (2 ^ 8) z (omega arith)
wrapped_again U16 z = kept (2 ^ 16) z (omega arith)
wrapped_again U32 z = kept (2 ^ 32) z (omega arith)
wrapped_again U64 z = kept (2 ^ 64) z (omega arith)
wrapped_again I8 z = ap (λ r. cast_signed w8 (unsigned_abs r)) (kept (2 ^ 8) z (omega arith))
wrapped_again I16 z = ap (λ r. cast_signed w16 (unsigned_abs r)) (kept (2 ^ 16) z (omega arith))
wrapped_again I32 z = ap (λ r. cast_signed w32 (unsigned_abs r)) (kept (2 ^ 32) z (omega arith))
wrapped_again I64 z = ap (λ r. cast_signed w64 (unsigned_abs r)) (kept (2 ^ 64) z (omega arith))

-- an integer of the type is read from its pattern
pub read_pattern : (t : PType) (z : ℤ) → IsTrue (fits t z) → read_as t (pattern_of t z) ≡ z
read_pattern t z fit = wrapped_again t z ∙ (Decides-int_eq (wrap t z) z).0 fit

-- the pattern of a number below m that is read as itself or as m below itself
signed_back : (m n : ℕ) (low : Bool) → n < m → unsigned_abs (int_rem_euclid (cond low (pos n) (negsuc (m - suc n))) (pos m)) ≡ n
signed_back m n true small = mod-eq_of_lt small
signed_back m n false small = let same : (m - suc n) % m ≡ m - suc n = mod-eq_of_lt (omega arith) in omega arith

-- the same of a number that was cut to the type's bits
cut_back : (m n half : ℕ) → n < m → unsigned_abs (int_rem_euclid (cond (nat_lt (n % m) half) (pos (n % m)) (negsuc (m - suc (n % m)))) (pos m)) ≡ n
cut_back m n half small = signed_back m (n % m) (nat_lt (n % m) half) (mod-lt n (omega arith)) ∙ mod-eq_of_lt small

-- a pattern is that of the integer that it is read as
pub pattern_read : (t : PType) (p : ℕ) → p < 2 ^ bits_of_type t → pattern_of t (read_as t p) ≡ p
pattern_read U8 p small = mod-mod p (2 ^ 8) ∙ mod-eq_of_lt small
pattern_read U16 p small = mod-mod p (2 ^ 16) ∙ mod-eq_of_lt small
pattern_read U32 p small = mod-mod p (2 ^ 32) ∙ mod-eq_of_lt small
pattern_read U64 p small = mod-mod p (2 ^ 64) ∙ mod-eq_of_lt small
pattern_read I8 p small = cut_back (2 ^ 8) p (2 ^ 7) small
pattern_read I16 p small = cut_back (2 ^ 16) p (2 ^ 15) small
pattern_read I32 p small = cut_back (2 ^ 32) p (2 ^ 31) small
pattern_read I64 p small = cut_back (2 ^ 64) p (2 ^ 63) small
