-- What was gathered of a whole column.
use Rattle.std.proofs.Common.{◌≡◌, ℕ, ℤ, pos, negsuc, ◌+◌, ◌-◌, ◌*◌, ◌%◌, ◌<◌, ◌≤◌, ◌^◌, List, [], ◌∷◌, length, Bool, true, false, Option, Some, None, refl, ap, sym, ◌∙◌, arith, to_z, of_z, SFits}
use Rattle.std.specs.Prelude.{◌+ℤ◌, ◌≤ℤ◌, ◌<ℤ◌, ◌&&◌, filter_map, unsigned_abs}
use Rattle.std.proofs.Math.Nat.{mul-le-mul_left}
use Rattle.std.proofs.Math.Path.{subst}
use Rattle.std.specs.Int.{Width, int_rem_euclid, int_wrap, w8, w16, w32, w64, w128}
use Rattle.std.specs.List.{list_all}
use Rattle.std.proofs.lemmas.Int.{SFits-int_wrap, fits_signed_from_abs, int_wrap_fits, ints, of_z-to_z}
use Rattle.std.proofs.lemmas.Bool.Decides.{Decides-int_eq}
use Rattle.fl_types.specs.declared.dtype.PType.{PType}
use Rattle.fl_types.specs.declared.dtype.PType.TheVariants.{U8, U16, U32, U64, I8, I16, I32, I64}
use Rattle.fl_types.specs.Integers.{fits, is_unsigned, wrap}
use Rattle.fl_column.specs.Columns.{Column, option_all}
use Rattle.fl_scan.specs.Raised.{raise}
use Rattle.fl_scan.specs.Totals.{sum_of, total, valid_items}

pub few_valid : (items : List (Option ℤ)) → length (filter_map (λ o. o) items) ≤ length items
few_valid [] = omega arith
few_valid (None ∷ items) = let rest = few_valid items in omega arith
few_valid (Some z ∷ items) = let rest = few_valid items in omega arith

-- ---- sums
both : (a b : Bool) → (a && b) ≡ true → (a ≡ true) × (b ≡ true)
both true b h = (refl, h)
both false b h = let wrong : false ≡ true = h in cc

remainder : (m : ℕ) (z : ℤ) → 0 < m → (n : ℕ) × ((int_rem_euclid z (pos m) ≡ pos n) × (n < m))
remainder m (pos a) some = (a % m, (refl, omega arith))
remainder m (negsuc a) some = (m - 1 - a % m, (refl, omega arith))

fitted : (t : PType) (z : ℤ) → fits t z ≡ true → wrap t z ≡ z
fitted t z h = (Decides-int_eq (wrap t z) z).0 h

unsigned_range : (t : PType) (z : ℤ) → is_unsigned t ≡ true → (n : ℕ) × ((wrap t z ≡ pos n) × (n ≤ 18446744073709551615))
unsigned_range U8 z h = let r = remainder (2 ^ 8) z (omega arith) in let low = r.1.1 in (r.0, (r.1.0, omega arith))
unsigned_range U16 z h = let r = remainder (2 ^ 16) z (omega arith) in let low = r.1.1 in (r.0, (r.1.0, omega arith))
unsigned_range U32 z h = let r = remainder (2 ^ 32) z (omega arith) in let low = r.1.1 in (r.0, (r.1.0, omega arith))
unsigned_range U64 z h = let r = remainder (2 ^ 64) z (omega arith) in let low = r.1.1 in (r.0, (r.1.0, omega arith))
unsigned_range I8 z h = let wrong : false ≡ true = h in cc
unsigned_range I16 z h = let wrong : false ≡ true = h in cc
unsigned_range I32 z h = let wrong : false ≡ true = h in cc
unsigned_range I64 z h = let wrong : false ≡ true = h in cc

fits_8 : (z : ℤ) → SFits w8 (wrap I8 z)
unfolding int_wrap
fits_8 z = SFits-int_wrap w8 z

fits_16 : (z : ℤ) → SFits w16 (wrap I16 z)
unfolding int_wrap
fits_16 z = SFits-int_wrap w16 z

fits_32 : (z : ℤ) → SFits w32 (wrap I32 z)
unfolding int_wrap
fits_32 z = SFits-int_wrap w32 z

fits_64 : (z : ℤ) → SFits w64 (wrap I64 z)
unfolding int_wrap
fits_64 z = SFits-int_wrap w64 z

signed_range : (t : PType) (z : ℤ) → is_unsigned t ≡ false → unsigned_abs (wrap t z) ≤ 9223372036854775808
signed_range I8 z h = let f = fits_8 z in omega (arith, ints)
signed_range I16 z h = let f = fits_16 z in omega (arith, ints)
signed_range I32 z h = let f = fits_32 z in omega (arith, ints)
signed_range I64 z h = let f = fits_64 z in omega (arith, ints)
signed_range U8 z h = let wrong : true ≡ false = h in cc
signed_range U16 z h = let wrong : true ≡ false = h in cc
signed_range U32 z h = let wrong : true ≡ false = h in cc
signed_range U64 z h = let wrong : true ≡ false = h in cc

unsigned_sum : (t : PType) (items : List (Option ℤ)) → is_unsigned t ≡ true → list_all (option_all (fits t)) items ≡ true
    → (s : ℕ) × ((total (filter_map (λ o. o) items) ≡ pos s) × (s ≤ length items * 18446744073709551615))
unsigned_sum t [] u h = (0, (refl, omega arith))
unsigned_sum t (None ∷ items) u h = let rest = unsigned_sum t items u h in let low = rest.1.1 in (rest.0, (rest.1.0, omega arith))
unsigned_sum t (Some z ∷ items) u h =
    let each = both (fits t z) (list_all (option_all (fits t)) items) h in
    let rest = unsigned_sum t items u each.1 in
    let here = unsigned_range t z u in
    let is : z ≡ pos here.0 = sym (fitted t z each.0) ∙ here.1.0 in
    let behind = rest.1.0 in
    let low = rest.1.1 in
    let small = here.1.1 in
    let sums : z +ℤ total (filter_map (λ o. o) items) ≡ pos (here.0 + rest.0) = omega (arith, ints) in
    (here.0 + rest.0, (sums, omega arith))

signed_sum : (t : PType) (items : List (Option ℤ)) → is_unsigned t ≡ false → list_all (option_all (fits t)) items ≡ true → unsigned_abs (total (filter_map (λ o. o) items)) ≤ length items * 9223372036854775808
signed_sum t [] u h = omega arith
signed_sum t (None ∷ items) u h = let rest = signed_sum t items u h in omega arith
signed_sum t (Some z ∷ items) u h =
    let each = both (fits t z) (list_all (option_all (fits t)) items) h in
    let rest = signed_sum t items u each.1 in
    let here = signed_range t z u in
    let is = fitted t z each.0 in
    let near : unsigned_abs z ≤ 9223372036854775808 = rw (← is) here in
    omega (arith, ints)

-- a signed sum that was wrapped is the sum
pub signed_total : (t : PType) (c : Column) (sum : ℤ) → is_unsigned t ≡ false → list_all (option_all (fits t)) c.items ≡ true → length c.items < 2 ^ 64 → SFits w128 sum
    → int_wrap w128 sum ≡ int_wrap w128 (total (valid_items c)) → sum ≡ sum_of c
signed_total t c sum u each few fit is =
    let near = signed_sum t c.items u each in
    let fit_all : SFits w128 (total (valid_items c)) = fits_signed_from_abs w128 (total (valid_items c)) (omega arith) in
    sym (int_wrap_fits w128 sum fit) ∙ (is ∙ int_wrap_fits w128 (total (valid_items c)) fit_all)

-- an unsigned sum that was wrapped as a signed one has the sum's bits
pub unsigned_total : (t : PType) (c : Column) (sum : ℤ) → is_unsigned t ≡ true → list_all (option_all (fits t)) c.items ≡ true → length c.items < 2 ^ 64 → SFits w128 sum
    → int_wrap w128 sum ≡ int_wrap w128 (total (valid_items c)) → pos (of_z w128 sum) ≡ sum_of c
unfolding int_wrap
unsigned_total t c sum u each few fit is =
    let whole = unsigned_sum t c.items u each in
    let low = whole.1.1 in
    let small : whole.0 < 2 ^ 128 = omega arith in
    let read : int_wrap w128 (pos whole.0) ≡ to_z w128 whole.0 = ap (to_z w128) (omega arith) in
    let same : sum ≡ to_z w128 whole.0 = sym (int_wrap_fits w128 sum fit) ∙ (is ∙ (ap (int_wrap w128) whole.1.0 ∙ read)) in
    ap (λ z. pos (of_z w128 z)) same ∙ (ap pos (of_z-to_z w128 whole.0 small) ∙ sym whole.1.0)

-- ---- integers counted from the least one of their type
signed_again : {w : Width} (t : PType) (z : ℤ) → fits t z ≡ true → SFits w (wrap t z) → SFits w z
signed_again {w} t z h f = subst (λ x. SFits w x) (fitted t z h) f

natural : (t : PType) (z : ℤ) → fits t z ≡ true → is_unsigned t ≡ true → raise t ≡ 0 → (pos 0 ≤ℤ (z +ℤ pos (raise t))) × ((z +ℤ pos (raise t)) <ℤ pos 18446744073709551616)
natural t z h u none =
    let r = unsigned_range t z u in
    let is : z ≡ pos r.0 = sym (fitted t z h) ∙ r.1.0 in
    let low = r.1.1 in
    (omega (arith, ints), omega (arith, ints))

-- none is below 0, and each is below 2 ^ 64
pub raised_range : (t : PType) (z : ℤ) → fits t z ≡ true → (pos 0 ≤ℤ (z +ℤ pos (raise t))) × ((z +ℤ pos (raise t)) <ℤ pos 18446744073709551616)
raised_range U8 z h = natural U8 z h refl refl
raised_range U16 z h = natural U16 z h refl refl
raised_range U32 z h = natural U32 z h refl refl
raised_range U64 z h = natural U64 z h refl refl
raised_range I8 z h = let f = signed_again {w = w8} I8 z h (fits_8 z) in (omega (arith, ints), omega (arith, ints))
raised_range I16 z h = let f = signed_again {w = w16} I16 z h (fits_16 z) in (omega (arith, ints), omega (arith, ints))
raised_range I32 z h = let f = signed_again {w = w32} I32 z h (fits_32 z) in (omega (arith, ints), omega (arith, ints))
raised_range I64 z h = let f = signed_again {w = w64} I64 z h (fits_64 z) in (omega (arith, ints), omega (arith, ints))

pub raise_small : (t : PType) → raise t ≤ 9223372036854775808
raise_small U8 = omega arith
raise_small U16 = omega arith
raise_small U32 = omega arith
raise_small U64 = omega arith
raise_small I8 = omega arith
raise_small I16 = omega arith
raise_small I32 = omega arith
raise_small I64 = omega arith

pub raised_few : (t : PType) (n r : ℕ) → n ≤ 1024 → r ≡ raise t → n * r ≤ 9444732965739290427392
raised_few t n r few is =
    let small = raise_small t in
    let low : r ≤ 9223372036854775808 = omega arith in
    let most : n * r ≤ n * 9223372036854775808 = mul-le-mul_left n low in
    omega arith
