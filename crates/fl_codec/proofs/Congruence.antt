-- Integers and patterns that are equal modulo 2 to a type's bits.
use Rattle.std.proofs.Common.{◌≡◌, ℕ, ℤ, pos, negsuc, zero, suc, ◌+◌, ◌-◌, ◌*◌, ◌/◌, ◌%◌, ◌^◌, ◌<◌, ◌≤◌, ◌+ℤ◌, ◌-ℤ◌, unsigned_abs, IsTrue, refl, ap, sym, ◌∙◌, arith}
use Rattle.std.specs.Int.{int_rem_euclid, cast_signed, w8, w16, w32, w64}
use Rattle.std.proofs.lemmas.Bool.Decides.{Decides-int_eq}
use Rattle.std.proofs.lemmas.Int.{ints, int_rem_euclid_is}
use Rattle.std.proofs.Math.Nat.{add-mul-mod_self_right}
use Rattle.std.proofs.lemmas.Nat.{div-add-mod', mod_below, pow_pos}
use Rattle.fl_types.specs.declared.dtype.PType.{PType}
use Rattle.fl_types.specs.declared.dtype.PType.TheVariants.{U8, U16, U32, U64, I8, I16, I32, I64}
use Rattle.fl_types.specs.Integers.{bits_of_type, fits, pattern_of, read_as, wrap}

-- the integer is the number modulo N
abbrev pub IsPattern : ℕ → ℤ → ℕ → Type 0
IsPattern N z p = (k : ℕ) × ((j : ℕ) × (z +ℤ pos (k * N) ≡ pos (p + j * N)))

pub itself : (N a : ℕ) → IsPattern N (pos a) a
itself N a = (0, (0, grind (arith, ints)))

split_mod : (N p : ℕ) → p / N * N + p % N ≡ p
split_mod N p = div-add-mod' p N

pub IsPattern-mod : (N : ℕ) (z : ℤ) (p : ℕ) → IsPattern N z p → IsPattern N z (p % N)
IsPattern-mod N z p (k, (j, e)) = let parts = split_mod N p in let joined : (j + p / N) * N ≡ j * N + p / N * N = grind arith in (k, (j + p / N, e ∙ ap (λ n. pos n) (omega arith)))

pub IsPattern-add : (N : ℕ) (z y : ℤ) (p q : ℕ) → IsPattern N z p → IsPattern N y q → IsPattern N (z +ℤ y) (p + q)
IsPattern-add N z y p q (k, (j, e)) (k', (j', f)) =
    let low : (k + k') * N ≡ k * N + k' * N = grind arith in
    let high : (j + j') * N ≡ j * N + j' * N = grind arith in
    (k + k', (j + j', omega (arith, ints)))

pub IsPattern-sub : (N : ℕ) (z y : ℤ) (p q : ℕ) → q ≤ N → IsPattern N z p → IsPattern N y q → IsPattern N (z -ℤ y) (p + (N - q))
IsPattern-sub N z y p q h (k, (j, e)) (k', (j', f)) =
    let low : (k + j' + 1) * N ≡ k * N + j' * N + N = grind arith in
    let high : (j + k') * N ≡ j * N + k' * N = grind arith in
    (k + j' + 1, (j + k', omega (arith, ints)))

pub remainder-IsPattern : (N : ℕ) (z : ℤ) (p : ℕ) → 0 < N → IsPattern N z p → int_rem_euclid z (pos N) ≡ pos (p % N)
remainder-IsPattern N z p h (k, (j, e)) = int_rem_euclid_is z (pos N) N k (p + j * N) h refl e ∙ ap (λ n. pos n) (add-mul-mod_self_right p j N)

mul-le_self : (m N : ℕ) → 0 < N → m ≤ m * N
mul-le_self m zero h = absurd (omega arith)
mul-le_self m (suc N) h = grind arith

-- each integer has a pattern
has_pattern : (N : ℕ) (z : ℤ) → 0 < N → (p : ℕ) × IsPattern N z p
has_pattern N (pos a) h = (a, itself N a)
has_pattern N (negsuc a) h =
    let more : a + 1 ≤ (a + 1) * N = mul-le_self (a + 1) N h in
    ((a + 1) * N - (a + 1), (a + 1, (0, omega (arith, ints))))

pub IsPattern-remainder : (N : ℕ) (z : ℤ) → 0 < N → IsPattern N z (unsigned_abs (int_rem_euclid z (pos N)))
IsPattern-remainder N z h =
    let some = has_pattern N z h in
    let e = remainder-IsPattern N z some.0 h some.1 in
    rw e (IsPattern-mod N z some.0 some.1)

pub remainder_small : (N : ℕ) (z : ℤ) → 0 < N → unsigned_abs (int_rem_euclid z (pos N)) < N
remainder_small N z h =
    let some = has_pattern N z h in
    let e = remainder-IsPattern N z some.0 h some.1 in
    rw e (mod_below some.0 N h)

-- ---- the types
-- integers of one remainder are one integer of the type
wrap-same : (ptype : PType) (y z : ℤ) → int_rem_euclid y (pos (2 ^ bits_of_type ptype)) ≡ int_rem_euclid z (pos (2 ^ bits_of_type ptype)) → wrap ptype y ≡ wrap ptype z
wrap-same U8 y z e = e
wrap-same U16 y z e = e
wrap-same U32 y z e = e
wrap-same U64 y z e = e
wrap-same I8 y z e = ap (λ x. cast_signed w8 (unsigned_abs x)) e
wrap-same I16 y z e = ap (λ x. cast_signed w16 (unsigned_abs x)) e
wrap-same I32 y z e = ap (λ x. cast_signed w32 (unsigned_abs x)) e
wrap-same I64 y z e = ap (λ x. cast_signed w64 (unsigned_abs x)) e

-- a pattern of an integer is read as the integer
pub read_as-IsPattern : (ptype : PType) (z : ℤ) (p : ℕ) → IsPattern (2 ^ bits_of_type ptype) z p → read_as ptype p ≡ wrap ptype z
read_as-IsPattern ptype z p is =
    let N : ℕ = 2 ^ bits_of_type ptype in
    let some = pow_pos (bits_of_type ptype) in
    wrap-same ptype (pos p) z (remainder-IsPattern N (pos p) p some (itself N p) ∙ sym (remainder-IsPattern N z p some is))

pub pattern_is : (ptype : PType) (z : ℤ) → IsPattern (2 ^ bits_of_type ptype) z (pattern_of ptype z)
pattern_is ptype z = IsPattern-remainder (2 ^ bits_of_type ptype) z (pow_pos (bits_of_type ptype))

pub pattern_small : (ptype : PType) (z : ℤ) → pattern_of ptype z < 2 ^ bits_of_type ptype
pattern_small ptype z = remainder_small (2 ^ bits_of_type ptype) z (pow_pos (bits_of_type ptype))

-- an integer of the type is read back
pub read_as-pattern_of : (ptype : PType) (z : ℤ) → IsTrue (fits ptype z) → read_as ptype (pattern_of ptype z) ≡ z
read_as-pattern_of ptype z fit = read_as-IsPattern ptype z (pattern_of ptype z) (pattern_is ptype z) ∙ (Decides-int_eq (wrap ptype z) z).0 fit

-- the difference of two patterns is read as that of the integers
pub read_as-difference : (ptype : PType) (z y : ℤ) → read_as ptype ((pattern_of ptype z + (2 ^ bits_of_type ptype - pattern_of ptype y)) % 2 ^ bits_of_type ptype) ≡ wrap ptype (z -ℤ y)
read_as-difference ptype z y =
    let N : ℕ = 2 ^ bits_of_type ptype in
    let small = pattern_small ptype y in
    read_as-IsPattern ptype (z -ℤ y) _ (IsPattern-mod N (z -ℤ y) (pattern_of ptype z + (N - pattern_of ptype y)) (IsPattern-sub N z y (pattern_of ptype z) (pattern_of ptype y) (omega arith) (pattern_is ptype z) (pattern_is ptype y)))

pub read_as-zero : (ptype : PType) → read_as ptype 0 ≡ pos 0
read_as-zero U8 = refl
read_as-zero U16 = refl
read_as-zero U32 = refl
read_as-zero U64 = refl
read_as-zero I8 = refl
read_as-zero I16 = refl
read_as-zero I32 = refl
read_as-zero I64 = refl
