-- The bits of patterns.
use Rattle.std.proofs.Common.{◌≡◌, ℕ, ℤ, pos, negsuc, zero, suc, ◌+◌, ◌-◌, ◌*◌, ◌<◌, ◌≤◌, ◌^◌, Option, Some, None, unsigned_abs, arith, sym, ap, ◌∙◌, inl, inr, lit≤, nat_lt, unwrap_or}
use Rattle.std.proofs.lemmas.Nat.{leading_length}
use Rattle.std.proofs.lemmas.Bool.{cases_lt, le-ltb, lt-ltb}
use Rattle.std.proofs.Math.Nat.{mod-lt, pow-le-pow_right, pow-suc}
use Rattle.std.specs.Int.{int_rem_euclid}
use lib.Count.{count_leading_zeros}
use Rattle.fl_types.specs.declared.dtype.PType.{PType}
use Rattle.fl_types.specs.declared.dtype.PType.TheVariants.{U8, U16, U32, U64, I8, I16, I32, I64}
use Rattle.fl_types.specs.Integers.{bits_of_type, pattern_of}
use Rattle.fl_patches.specs.Exceptions.{bit_count, bits_of_item}
use Rattle.fl_patches.proofs.Firsts.{find_first, find_none}

-- ---- the least n with pattern < 2 ^ n
pub bit_count_is : (p n : ℕ) → n ≤ 64 → p < 2 ^ n → ((w : ℕ) → w < n → 2 ^ w ≤ p) → bit_count p ≡ n
unfolding bit_count
bit_count_is p n most holds least = elim (cases_lt n 64) [
  | inl few ↦ ap (λ o. unwrap_or o 64) (find_first (λ w. nat_lt p (2 ^ w)) 0 64 n (omega arith) (omega arith) (lt-ltb p (2 ^ n) holds) (λ j h l. le-ltb p (2 ^ j) (least j l)))
  | inr all ↦ (let same : 64 ≡ n = omega arith in ap (λ o. unwrap_or o 64) (find_none (λ w. nat_lt p (2 ^ w)) 0 64 (λ j h l. le-ltb p (2 ^ j) (least j (omega arith)))) ∙ same)
]

-- a power below the one that a number passes
below_top : (p m w : ℕ) → 2 ^ m ≤ 2 * p + 1 → w < m → 2 ^ w ≤ p
below_top p zero w h l = absurd (omega arith)
below_top p (suc m) w h l =
    let double : 2 ^ suc m ≡ 2 ^ m * 2 = pow-suc 2 m in
    let within : 2 ^ w ≤ 2 ^ m = pow-le-pow_right (lit≤ tt) (omega arith) in
    omega arith

-- 64 less the leading zeros
pub count_by_zeros : (p : ℕ) → p < 2 ^ 64 → 64 - count_leading_zeros 64 p ≡ bit_count p
count_by_zeros p h =
    let found = leading_length 64 p h in
    let sum : count_leading_zeros 64 p + found.0 ≡ 64 = found.1 in
    let e : 64 - count_leading_zeros 64 p ≡ found.0 = omega arith in
    e ∙ sym (bit_count_is p found.0 (omega arith) found.2 (λ w l. below_top p found.0 w found.3 l))

-- a pattern is below the power of its bits, and not below a smaller one
pub bit_count_holds : (p : ℕ) → p < 2 ^ 64 → (p < 2 ^ bit_count p) × ((w : ℕ) → w < bit_count p → 2 ^ w ≤ p)
bit_count_holds p h =
    let found = leading_length 64 p h in
    let sum : count_leading_zeros 64 p + found.0 ≡ 64 = found.1 in
    let is : bit_count p ≡ found.0 = bit_count_is p found.0 (omega arith) found.2 (λ w l. below_top p found.0 w found.3 l) in
    rw is (found.2, λ w l. below_top p found.0 w found.3 l)

pub bit_count_most : (p n : ℕ) → n ≤ 64 → p < 2 ^ n → bit_count p ≤ n
bit_count_most p n most h =
    let power : 2 ^ n ≤ 2 ^ 64 = pow-le-pow_right (lit≤ tt) most in
    let holds = bit_count_holds p (omega arith) in
    elim (cases_lt n (bit_count p)) [
      | inl more ↦ (let high = holds.1 n more in absurd (omega arith))
      | inr less ↦ less
    ]

-- a smaller pattern has no more bits
pub bit_count-le : (p q : ℕ) → p ≤ q → q < 2 ^ 64 → bit_count p ≤ bit_count q
bit_count-le p q h room =
    let holds = bit_count_holds q room in
    bit_count_most p (bit_count q) (bit_count_most q 64 (lit≤ tt) room) (omega (arith, holds.0))

-- ---- patterns of a type
rem_below : (m : ℕ) (z : ℤ) → 0 < m → unsigned_abs (int_rem_euclid z (pos m)) < m
rem_below m (pos a) some = mod-lt a some
rem_below m (negsuc a) some = omega arith

pub pattern_below : (t : PType) (z : ℤ) → pattern_of t z < 2 ^ bits_of_type t
pattern_below U8 z = rem_below (2 ^ 8) z (omega arith)
pattern_below U16 z = rem_below (2 ^ 16) z (omega arith)
pattern_below U32 z = rem_below (2 ^ 32) z (omega arith)
pattern_below U64 z = rem_below (2 ^ 64) z (omega arith)
pattern_below I8 z = rem_below (2 ^ 8) z (omega arith)
pattern_below I16 z = rem_below (2 ^ 16) z (omega arith)
pattern_below I32 z = rem_below (2 ^ 32) z (omega arith)
pattern_below I64 z = rem_below (2 ^ 64) z (omega arith)

pub type_most : (t : PType) → bits_of_type t ≤ 64
type_most U8 = lit≤ tt
type_most U16 = lit≤ tt
type_most U32 = lit≤ tt
type_most U64 = lit≤ tt
type_most I8 = lit≤ tt
type_most I16 = lit≤ tt
type_most I32 = lit≤ tt
type_most I64 = lit≤ tt

pub bits_of_pattern : (t : PType) (z : ℤ) → bit_count (pattern_of t z) ≤ bits_of_type t
bits_of_pattern t z = bit_count_most (pattern_of t z) (bits_of_type t) (type_most t) (pattern_below t z)

pub bits_of_item_most : (t : PType) (item : Option ℤ) → bits_of_item t item ≤ bits_of_type t
bits_of_item_most t None = omega arith
bits_of_item_most t (Some z) = bits_of_pattern t z
