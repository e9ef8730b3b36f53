-- The sign of an integer and the bits of its pattern.
use Rattle.std.proofs.Common.{◌≡◌, ℕ, ℤ, pos, negsuc, suc, ◌+◌, ◌-◌, ◌<◌, ◌≤◌, ◌^◌, ◌%◌, ◌==◌, ◌&&◌, ◌||◌, Bool, true, false, cond, not, nat_lt, List, [], ◌∷◌, get_or, Option, Some, None, IsTrue, refl, ap, sym, ◌∙◌, inl, inr, arith, le_trans, lit≤, zero-add}
use Rattle.std.specs.Prelude.{int_lt}
use Rattle.std.specs.List.{list_all, list_any}
use Rattle.std.proofs.Math.Nat.{mod-eq_of_lt, pow-le-pow_right}
use Rattle.std.proofs.lemmas.Bool.{cases_Bool, cases_lt, eq-eqb, ne_eqb, le-ltb, lt-ltb}
use Rattle.fl_types.specs.declared.dtype.PType.{PType}
use Rattle.fl_types.specs.declared.dtype.PType.TheVariants.{U8, U16, U32, U64, I8, I16, I32, I64}
use Rattle.fl_types.specs.Integers.{bits_of_type, fits, is_unsigned, pattern_of}
use Rattle.fl_types.proofs.Patterns.{read_pattern}
use Rattle.fl_column.specs.Columns.{option_all}
use Rattle.fl_column.proofs.ListLaws.{and_first, and_second}
use Rattle.fl_patches.specs.Exceptions.{bit_count, bits_of_item, count_with_bits, histogram_of, is_negative}
use Rattle.fl_patches.proofs.BitCounts.{bit_count_is, bit_count_most, pattern_below}
use Rattle.fl_patches.proofs.Histograms.{count_cons, count_with_bits_none, entry_at}

sign_of : (b : Bool) (n k : ℕ) → int_lt (cond b (pos n) (negsuc k)) (pos 0) ≡ not b
sign_of true n k = le-ltb n 0 (omega arith)
sign_of false n k = refl

-- a pattern has all bits of a type where its highest is set
full_bits : (p m : ℕ) → suc m ≤ 64 → p < 2 ^ suc m → (bit_count p == suc m) ≡ not (nat_lt p (2 ^ m))
full_bits p m most h = elim (cases_lt p (2 ^ m)) [
  | inl below ↦
      (let few : bit_count p ≤ m = bit_count_most p m (omega arith) below in
      rw (lt-ltb p (2 ^ m) below) (ne_eqb (bit_count p) (suc m) (λ e. omega arith)))
  | inr above ↦
      (let all : bit_count p ≡ suc m = bit_count_is p (suc m) most h (λ w l. le_trans (pow-le-pow_right (lit≤ tt) (omega arith)) above) in
      rw (le-ltb p (2 ^ m) above) (eq-eqb (bit_count p) (suc m) all))
]

-- an integer that is read from a pattern of a signed type
from_pattern : (p m : ℕ) (z : ℤ) → suc m ≤ 64 → p < 2 ^ suc m → z ≡ cond (nat_lt (p % 2 ^ suc m) (2 ^ m)) (pos (p % 2 ^ suc m)) (negsuc (2 ^ suc m - suc (p % 2 ^ suc m))) → int_lt z (pos 0) ≡ (bit_count p == suc m)
from_pattern p m z most h is =
    let same : p % 2 ^ suc m ≡ p = mod-eq_of_lt h in
    ap (λ x. int_lt x (pos 0)) is ∙ (sign_of (nat_lt (p % 2 ^ suc m) (2 ^ m)) _ _ ∙ (ap (λ n. not (nat_lt n (2 ^ m))) same ∙ sym (full_bits p m most h)))

negative_bits : (t : PType) (z : ℤ) → is_unsigned t ≡ false → IsTrue (fits t z) → int_lt z (pos 0) ≡ (bit_count (pattern_of t z) == bits_of_type t)
negative_bits U8 z e fit = cc
negative_bits U16 z e fit = cc
negative_bits U32 z e fit = cc
negative_bits U64 z e fit = cc
negative_bits I8 z e fit = from_pattern (pattern_of I8 z) 7 z (lit≤ tt) (pattern_below I8 z) (sym (read_pattern I8 z fit))
negative_bits I16 z e fit = from_pattern (pattern_of I16 z) 15 z (lit≤ tt) (pattern_below I16 z) (sym (read_pattern I16 z fit))
negative_bits I32 z e fit = from_pattern (pattern_of I32 z) 31 z (lit≤ tt) (pattern_below I32 z) (sym (read_pattern I32 z fit))
negative_bits I64 z e fit = from_pattern (pattern_of I64 z) 63 z (lit≤ tt) (pattern_below I64 z) (sym (read_pattern I64 z fit))

no_sign : (t : PType) (z : ℤ) → is_unsigned t ≡ true → IsTrue (fits t z) → int_lt z (pos 0) ≡ false
no_sign U8 z e fit = ap (λ x. int_lt x (pos 0)) (sym (read_pattern U8 z fit)) ∙ le-ltb _ 0 (omega arith)
no_sign U16 z e fit = ap (λ x. int_lt x (pos 0)) (sym (read_pattern U16 z fit)) ∙ le-ltb _ 0 (omega arith)
no_sign U32 z e fit = ap (λ x. int_lt x (pos 0)) (sym (read_pattern U32 z fit)) ∙ le-ltb _ 0 (omega arith)
no_sign U64 z e fit = ap (λ x. int_lt x (pos 0)) (sym (read_pattern U64 z fit)) ∙ le-ltb _ 0 (omega arith)
no_sign I8 z e fit = cc
no_sign I16 z e fit = cc
no_sign I32 z e fit = cc
no_sign I64 z e fit = cc

null_bits : (t : PType) → (0 == bits_of_type t) ≡ false
null_bits U8 = refl
null_bits U16 = refl
null_bits U32 = refl
null_bits U64 = refl
null_bits I8 = refl
null_bits I16 = refl
null_bits I32 = refl
null_bits I64 = refl

item_sign : (t : PType) (item : Option ℤ) → is_unsigned t ≡ false → IsTrue (option_all (fits t) item) → is_negative item ≡ (bits_of_item t item == bits_of_type t)
item_sign t None e fit = sym (null_bits t)
item_sign t (Some z) e fit = negative_bits t z e fit

counts_either : (b : Bool) (n : ℕ) → nat_lt 0 (cond b 1 0 + n) ≡ (b || nat_lt 0 n)
counts_either true n = lt-ltb 0 (1 + n) (omega arith)
counts_either false n = ap (nat_lt 0) (zero-add n)

-- a signed type's items of all bits are the negative ones
negatives_counted : (t : PType) (items : List (Option ℤ)) → is_unsigned t ≡ false → IsTrue (list_all (option_all (fits t)) items) → nat_lt 0 (count_with_bits t items (bits_of_type t)) ≡ list_any is_negative items
negatives_counted t [] e fit = ap (nat_lt 0) (count_with_bits_none t (bits_of_type t))
negatives_counted t (item ∷ items) e fit =
    let full : Bool = bits_of_item t item == bits_of_type t in
    let first = item_sign t item e (and_first (option_all (fits t) item) (list_all (option_all (fits t)) items) fit) in
    let rest = negatives_counted t items e (and_second (option_all (fits t) item) (list_all (option_all (fits t)) items) fit) in
    ap (nat_lt 0) (count_cons t item items (bits_of_type t)) ∙ (counts_either full (count_with_bits t items (bits_of_type t)) ∙ (ap (λ b. full || b) rest ∙ ap (λ b. b || list_any is_negative items) (sym first)))

-- an unsigned type has none
no_negatives : (t : PType) (items : List (Option ℤ)) → is_unsigned t ≡ true → IsTrue (list_all (option_all (fits t)) items) → list_any is_negative items ≡ false
no_negatives t [] e fit = refl
no_negatives t (None ∷ items) e fit = no_negatives t items e fit
no_negatives t (Some z ∷ items) e fit = rw (no_sign t z e (and_first (fits t z) (list_all (option_all (fits t)) items) fit)) (no_negatives t items e (and_second (fits t z) (list_all (option_all (fits t)) items) fit))

-- the last entry of a histogram counts them
last_entry : (t : PType) (items : List (Option ℤ)) (entries : List ℕ) → entries ≡ histogram_of t items → is_unsigned t ≡ false → IsTrue (list_all (option_all (fits t)) items) → nat_lt 0 (get_or entries (bits_of_type t) 0) ≡ list_any is_negative items
last_entry t items entries is e fit =
    ap (nat_lt 0) (ap (λ xs. get_or xs (bits_of_type t) 0) is ∙ entry_at t items (bits_of_type t) (omega arith)) ∙ negatives_counted t items e fit

-- so the last entry tells of them where the type is signed
pub signs_counted : (t : PType) (items : List (Option ℤ)) (entries : List ℕ) → entries ≡ histogram_of t items → IsTrue (list_all (option_all (fits t)) items) → (not (is_unsigned t) && nat_lt 0 (get_or entries (bits_of_type t) 0)) ≡ list_any is_negative items
signs_counted t items entries is fit = elim (cases_Bool (is_unsigned t)) [
  | inl unsigned ↦ rw unsigned (sym (no_negatives t items unsigned fit))
  | inr signed ↦ rw signed (last_entry t items entries is signed fit)
]
