-- Integers of a type.
use Rattle.std.proofs.Common.{◌≡◌, ℕ, ℤ, pos, negsuc, suc, ◌-◌, ◌-ℤ◌, ◌^◌, ◌%◌, ◌<◌, Bool, true, false, cond, nat_lt, unsigned_abs, ap, arith}
use Rattle.std.specs.Int.{w8, w16, w32, w64, cast_signed, int_rem_euclid}
use Rattle.std.proofs.Math.Nat.{mod-eq_of_lt, mod-lt, mod-mod}
use Rattle.std.proofs.lemmas.Int.{ints}
use Rattle.std.proofs.lemmas.Bool.Decides.{Decides-int_eq}
use Rattle.fl_types.specs.declared.dtype.PType.{PType}
use Rattle.fl_types.specs.declared.dtype.PType.TheVariants.{U8, U16, U32, U64, I8, I16, I32, I64}
use Rattle.fl_types.specs.Integers.{fits, wrap}
use Rattle.fl_statistics.specs.Differences.{difference}

pub fitting : (t : PType) (z : ℤ) → fits t z ≡ true → wrap t z ≡ z
fitting t z fit = (Decides-int_eq (wrap t z) z).0 fit

pub minus_none : (z : ℤ) → z -ℤ pos 0 ≡ z
minus_none z = omega (arith, ints)

-- the remainder of a remainder
kept : (m : ℕ) (z : ℤ) → 0 < m → int_rem_euclid (int_rem_euclid z (pos m)) (pos m) ≡ int_rem_euclid z (pos m)
kept m (pos a) some = ap pos (mod-mod a m)
kept m (negsuc a) some = ap pos (mod-eq_of_lt (let small = mod-lt a some in omega arith))

below : (m : ℕ) (z : ℤ) → 0 < m → unsigned_abs (int_rem_euclid z (pos m)) < m
below m (pos a) some = mod-lt a some
below m (negsuc a) some = omega arith

-- a pattern that is read as itself or as m below itself
read_back : (m n : ℕ) (low : Bool) → n < m → unsigned_abs (int_rem_euclid (cond low (pos n) (negsuc (m - suc n))) (pos m)) ≡ n
read_back m n true small = mod-eq_of_lt small
read_back m n false small = let same : (m - suc n) % m ≡ m - suc n = mod-eq_of_lt (omega arith) in omega arith

wrapped_again : (t : PType) (z : ℤ) → wrap t (wrap t z) ≡ wrap t z
wrapped_again U8 z = kept (2 ^ 8) z (omega arith)
wrapped_again U16 z = kept (2 ^ 16) z (omega arith)
wrapped_again U32 z = kept (2 ^ 32) z (omega arith)
wrapped_again U64 z = kept (2 ^ 64) z (omega arith)
wrapped_again I8 z = let n = unsigned_abs (int_rem_euclid z (pos (2 ^ 8))) in ap (cast_signed w8) (read_back (2 ^ 8) n (nat_lt n (2 ^ 7)) (below (2 ^ 8) z (omega arith)))
wrapped_again I16 z = let n = unsigned_abs (int_rem_euclid z (pos (2 ^ 16))) in ap (cast_signed w16) (read_back (2 ^ 16) n (nat_lt n (2 ^ 15)) (below (2 ^ 16) z (omega arith)))
wrapped_again I32 z = let n = unsigned_abs (int_rem_euclid z (pos (2 ^ 32))) in ap (cast_signed w32) (read_back (2 ^ 32) n (nat_lt n (2 ^ 31)) (below (2 ^ 32) z (omega arith)))
wrapped_again I64 z = let n = unsigned_abs (int_rem_euclid z (pos (2 ^ 64))) in ap (cast_signed w64) (read_back (2 ^ 64) n (nat_lt n (2 ^ 63)) (below (2 ^ 64) z (omega arith)))

pub difference_fits : (t : PType) (reference z : ℤ) → fits t (difference t reference z) ≡ true
difference_fits t reference z = (Decides-int_eq (wrap t (wrap t (z -ℤ reference))) (wrap t (z -ℤ reference))).1 (wrapped_again t (z -ℤ reference))
