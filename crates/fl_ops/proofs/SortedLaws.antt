-- Items plus a reference that rise as the items do.
use Rattle.std.proofs.Common.{◌≡◌, ◌∙◌, ℕ, ℤ, pos, ◌+ℤ◌, Bool, true, false, not, List, [], ◌∷◌, map, replicate, Option, Some, None, Ok, int_lt, refl, ap, sym, arith}
use Rattle.std.specs.Prelude.{◌&&◌, if◌then◌else◌, unwrap_or}
use Rattle.std.specs.List.{list_all}
use Rattle.std.proofs.lemmas.Int.{ints}
use Rattle.fl_types.specs.declared.dtype.DType.{DType}
use Rattle.fl_types.specs.declared.dtype.DType.TheVariants as dtypes
use Rattle.fl_types.specs.declared.dtype.PType.{PType}
use Rattle.fl_types.specs.declared.validity.Validity.{Validity}
use Rattle.fl_types.specs.declared.validity.Validity.TheVariants as valid
use Rattle.fl_types.specs.Validities.{items_of, masked}
use Rattle.fl_types.specs.Values.{ScalarParts}
use Rattle.fl_column.specs.Columns.{Column, ConstantParts, PrimitiveParts, column_of_constant, column_of_primitive, option_all, ptype_of_column}
use Rattle.fl_column.specs.Queries.{are_sorted, are_strictly_sorted, each_next, is_below, is_sorted_column}
use Rattle.fl_column.proofs.ConstantLaws.{constant_sorted, constant_strict}
use Rattle.fl_column.proofs.ItemLaws.{map-replicate}
use Rattle.fl_column.proofs.ListLaws.{and_first, and_second, and_true}
use Rattle.fl_codec.specs.FoRColumns.{global_for, plus_reference}
use Rattle.fl_codec.proofs.FoRRoundTrips.{fitting}
use Rattle.fl_array.specs.FoRArrays.{FoRArrayParts, GlobalReference, tree_of_for}
use Rattle.fl_array.specs.Trees.{column}
use Rattle.fl_array.proofs.FoRSound.{global_column}
use Rattle.fl_ops.specs.Sums.{sum_fits, sums_fit}

-- ---- the order of two items
same_order : (x y r : ℤ) → int_lt (x +ℤ r) (y +ℤ r) ≡ int_lt x y
same_order x y r = grind (arith, ints)

below_alike : (p : PType) (r : ℤ) (x y : Option ℤ) → option_all (sum_fits p r) x ≡ true → option_all (sum_fits p r) y ≡ true → is_below (plus_reference p r x) (plus_reference p r y) ≡ is_below x y
below_alike p r None None a b = refl
below_alike p r None (Some y) a b = refl
below_alike p r (Some x) None a b = refl
below_alike p r (Some x) (Some y) a b = rw (fitting p (x +ℤ r) a, fitting p (y +ℤ r) b) (same_order x y r)

-- ---- the order of all items
next_alike : (test : Option ℤ → Option ℤ → Bool) (p : PType) (r : ℤ) → ((x y : Option ℤ) → option_all (sum_fits p r) x ≡ true → option_all (sum_fits p r) y ≡ true → test (plus_reference p r x) (plus_reference p r y) ≡ test x y)
    → (items : List (Option ℤ)) → sums_fit p r items ≡ true → each_next test (map (plus_reference p r) items) ≡ each_next test items
next_alike test p r alike [] h = refl
next_alike test p r alike (x ∷ []) h = refl
next_alike test p r alike (x ∷ y ∷ rest) h =
    let here = and_first (option_all (sum_fits p r) x) (sums_fit p r (y ∷ rest)) h in
    let others = and_second (option_all (sum_fits p r) x) (sums_fit p r (y ∷ rest)) h in
    (λ i. alike x y here (and_first (option_all (sum_fits p r) y) (sums_fit p r rest) others) i && next_alike test p r alike (y ∷ rest) others i)

sorted_alike : (strict : Bool) (p : PType) (r : ℤ) (items : List (Option ℤ)) → sums_fit p r items ≡ true
    → (if strict then are_strictly_sorted (map (plus_reference p r) items) else are_sorted (map (plus_reference p r) items)) ≡ (if strict then are_strictly_sorted items else are_sorted items)
sorted_alike true p r items h = next_alike is_below p r (below_alike p r) items h
sorted_alike false p r items h = next_alike (λ x y. not (is_below y x)) p r (λ x y a b. ap not (below_alike p r y x b a)) items h

-- where no sum passes the type's end, the sums rise as the items do
pub sums_rise : (strict : Bool) (r : ℤ) (c : Column) → sums_fit (ptype_of_column c) r c.items ≡ true → is_sorted_column strict (global_for r c) ≡ is_sorted_column strict c
sums_rise strict r c h = each c.dtype h
  where
    each : (d : DType) → sums_fit (ptype_of_column (record { dtype = d; items = c.items })) r c.items ≡ true → is_sorted_column strict (global_for r (record { dtype = d; items = c.items })) ≡ is_sorted_column strict (record { dtype = d; items = c.items })
    each (dtypes.Primitive p m) fit = ap (λ (b : Bool). Ok b) (sorted_alike strict p r c.items fit)
    each (dtypes.Bool m) fit = refl

-- ---- equal items
constant_alike : (strict : Bool) (x y : Option ℤ) (n : ℕ) → (if strict then are_strictly_sorted (replicate n x) else are_sorted (replicate n x)) ≡ (if strict then are_strictly_sorted (replicate n y) else are_sorted (replicate n y))
constant_alike true x y n = constant_strict x n ∙ sym (constant_strict y n)
constant_alike false x y n = constant_sorted x n ∙ sym (constant_sorted y n)

constant_rises : (strict : Bool) (r : ℤ) (c : ConstantParts) → is_sorted_column strict (global_for r (column_of_constant c)) ≡ is_sorted_column strict (column_of_constant c)
constant_rises strict r c = each c.scalar.dtype
  where
    each : (d : DType) → is_sorted_column strict (global_for r (record { dtype = d; items = replicate c.len c.scalar.value })) ≡ is_sorted_column strict (record { dtype = d; items = replicate c.len c.scalar.value })
    each (dtypes.Primitive p m) =
        ap (λ (items : List (Option ℤ)). is_sorted_column strict (record { dtype = dtypes.Primitive p m; items = items })) (map-replicate (plus_reference p r) c.len c.scalar.value)
        ∙ ap (λ (b : Bool). Ok b) (constant_alike strict (plus_reference p r c.scalar.value) c.scalar.value c.len)
    each (dtypes.Bool m) = refl

-- ---- stored integers
masked_fit : (test : ℤ → Bool) (bits : List Bool) (zs : List ℤ) → list_all test zs ≡ true → list_all (option_all test) (masked bits zs) ≡ true
masked_fit test [] zs h = refl
masked_fit test (b ∷ bits) [] h = refl
masked_fit test (true ∷ bits) (z ∷ zs) h = and_true (test z) (list_all (option_all test) (masked bits zs)) (and_first (test z) (list_all test zs) h) (masked_fit test bits zs (and_second (test z) (list_all test zs) h))
masked_fit test (false ∷ bits) (z ∷ zs) h = masked_fit test bits zs (and_second (test z) (list_all test zs) h)

valid_fit : (test : ℤ → Bool) (zs : List ℤ) → list_all test zs ≡ true → list_all (option_all test) (map (λ z. Some z) zs) ≡ true
valid_fit test [] h = refl
valid_fit test (z ∷ zs) h = and_true (test z) (list_all (option_all test) (map (λ z. Some z) zs)) (and_first (test z) (list_all test zs) h) (valid_fit test zs (and_second (test z) (list_all test zs) h))

nulls_fit : (test : ℤ → Bool) (zs : List ℤ) → list_all (option_all test) (items_of valid.AllInvalid zs) ≡ true
nulls_fit test [] = refl
nulls_fit test (z ∷ zs) = nulls_fit test zs

slots_fit : (test : ℤ → Bool) (v : Validity) (zs : List ℤ) → list_all test zs ≡ true → list_all (option_all test) (items_of v zs) ≡ true
slots_fit test valid.NonNullable zs h = valid_fit test zs h
slots_fit test valid.AllValid zs h = valid_fit test zs h
slots_fit test valid.AllInvalid zs h = nulls_fit test zs
slots_fit test (valid.Array bits) zs h = masked_fit test bits zs h

-- the same test of the values of typed items
all_mapped : {A : Type 0} (test : ℤ → Bool) (value : A → ℤ) (xs : List A) → list_all (λ x. test (value x)) xs ≡ list_all test (map value xs)
all_mapped test value [] = refl
all_mapped test value (x ∷ xs) = ap (λ b. test (value x) && b) (all_mapped test value xs)

pub all_sums_mapped : {A : Type 0} (value : A → ℤ) (xs : List A) (p q : PType) (r s : ℤ) (zs : List ℤ) → q ≡ p → s ≡ r → map value xs ≡ zs → list_all (λ x. sum_fits p s (value x)) xs ≡ list_all (sum_fits q r) zs
all_sums_mapped value xs p q r s zs typed same is = rw (typed, same, ← is) (all_mapped (sum_fits p r) value xs)

-- ---- arrays
pub rises_over_constant : (strict : Bool) (a : FoRArrayParts) (r : ScalarParts) (c : ConstantParts) → GlobalReference r ≡ a.references → column a.encoded ≡ column_of_constant c → is_sorted_column strict (column (tree_of_for a)) ≡ is_sorted_column strict (column_of_constant c)
rises_over_constant strict a r c same is =
    ap (is_sorted_column strict) (global_column a r same ∙ ap (global_for (unwrap_or r.value (pos 0))) is) ∙ constant_rises strict (unwrap_or r.value (pos 0)) c

pub rises_over_plain : (strict : Bool) (a : FoRArrayParts) (r : ScalarParts) (p : PrimitiveParts) → GlobalReference r ≡ a.references → column a.encoded ≡ column_of_primitive p → list_all (sum_fits p.ptype (unwrap_or r.value (pos 0))) p.slots ≡ true → is_sorted_column strict (column (tree_of_for a)) ≡ is_sorted_column strict (column_of_primitive p)
rises_over_plain strict a r p same is fit =
    ap (is_sorted_column strict) (global_column a r same ∙ ap (global_for (unwrap_or r.value (pos 0))) is)
    ∙ sums_rise strict (unwrap_or r.value (pos 0)) (column_of_primitive p) (slots_fit (sum_fits p.ptype (unwrap_or r.value (pos 0))) p.validity p.slots fit)
