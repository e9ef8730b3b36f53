-- The valid items of plain arrays.
use Rattle.std.proofs.Common.{◌≡◌, ℕ, ℤ, List, [], ◌∷◌, length, map, replicate, zero, suc, Bool, true, false, Some, None, refl, ap, sym, ◌∙◌}
use Rattle.std.specs.Prelude.{filter_map}
use Rattle.std.proofs.Common.{◌⊎◌, ◌+◌, ◌-◌, inl, inr, IsTrue, arith}
use Rattle.std.specs.Prelude.{◌==◌}
use Rattle.std.proofs.Math.Path.{subst}
use Rattle.std.proofs.lemmas.List.{length-map, take_all}
use Rattle.fl_types.specs.declared.validity.Validity.{Validity}
use Rattle.fl_types.specs.declared.validity.Validity.TheVariants as valid
use Rattle.fl_types.specs.Bits.{between, kept}
use Rattle.fl_column.specs.Columns.{ConstantParts, PrimitiveParts, column_of_constant, column_of_primitive}
use Rattle.fl_scan.specs.Totals.{valid_items}
use Rattle.fl_types.specs.Validities.{covers, items_of, masked}

pub valid_all : (xs : List ℤ) → filter_map (λ o. o) (map (λ x. Some x) xs) ≡ xs
valid_all [] = refl
valid_all (x ∷ xs) = ap (λ ys. x ∷ ys) (valid_all xs)

pub valid_none : {A : Type 0} (xs : List A) → filter_map {Y = ℤ} (λ o. o) (map (λ x. None) xs) ≡ []
valid_none [] = refl
valid_none (x ∷ xs) = valid_none xs

pub valid_masked : (bits : List Bool) (xs : List ℤ) → filter_map (λ o. o) (masked bits xs) ≡ kept bits xs
valid_masked [] xs = refl
valid_masked (bit ∷ bits) [] = refl
valid_masked (true ∷ bits) (x ∷ xs) = ap (λ ys. x ∷ ys) (valid_masked bits xs)
valid_masked (false ∷ bits) (x ∷ xs) = valid_masked bits xs

-- ---- plain arrays
pub no_item_valid : (p : PrimitiveParts) (v : Validity) → v ≡ valid.AllInvalid → v ≡ p.validity → valid_items (column_of_primitive p) ≡ []
no_item_valid p v is same = ap (λ u. filter_map (λ o. o) (items_of u p.slots)) (sym same ∙ is) ∙ valid_none p.slots

pub each_item_valid : (p : PrimitiveParts) (v : Validity) (zs : List ℤ) → (v ≡ valid.NonNullable) ⊎ (v ≡ valid.AllValid) → v ≡ p.validity → zs ≡ p.slots → valid_items (column_of_primitive p) ≡ zs
each_item_valid p v zs (inl is) same slots = ap (λ u. filter_map (λ o. o) (items_of u p.slots)) (sym same ∙ is) ∙ (valid_all p.slots ∙ sym slots)
each_item_valid p v zs (inr is) same slots = ap (λ u. filter_map (λ o. o) (items_of u p.slots)) (sym same ∙ is) ∙ (valid_all p.slots ∙ sym slots)

pub set_items_valid : (p : PrimitiveParts) (v : Validity) (bits : List Bool) (zs : List ℤ) → v ≡ valid.Array bits → v ≡ p.validity → zs ≡ p.slots → valid_items (column_of_primitive p) ≡ kept bits zs
set_items_valid p v bits zs is same slots = ap (λ u. filter_map (λ o. o) (items_of u p.slots)) (sym same ∙ is) ∙ (valid_masked bits p.slots ∙ ap (kept bits) (sym slots))

covered_len : (bits : List Bool) (n : ℕ) → (length bits == n) ≡ true → length bits ≡ n
covered_len bits n h = grind arith

-- the bits of a plain array's validity are one for each slot
pub whole_mask : {X : Type 0} (value : X → ℤ) (p : PrimitiveParts) (v : Validity) (bits : List Bool) (xs : List X) → v ≡ valid.Array bits → v ≡ p.validity → IsTrue (covers p.validity (length p.slots)) → map value xs ≡ p.slots
    → between 0 (0 + length xs) bits ≡ bits
whole_mask value p v bits xs is same covered slots =
    let long : length bits ≡ length p.slots = covered_len bits (length p.slots) (subst (λ u. covers u (length p.slots) ≡ true) (sym same ∙ is) covered) in
    let size : length xs ≡ length p.slots = sym (length-map xs value) ∙ ap length slots in
    take_all (0 + length xs - 0) bits (omega arith)

-- ---- constant arrays
valid_repeated : (n : ℕ) (z : ℤ) → filter_map (λ o. o) (replicate n (Some z)) ≡ replicate n z
valid_repeated zero z = refl
valid_repeated (suc n) z = ap (λ zs. z ∷ zs) (valid_repeated n z)

valid_nulls : (n : ℕ) → filter_map {Y = ℤ} (λ o. o) (replicate n None) ≡ []
valid_nulls zero = refl
valid_nulls (suc n) = valid_nulls n

pub constant_valid : (k : ConstantParts) (z : ℤ) (n : ℕ) → Some z ≡ k.scalar.value → n ≡ k.len → valid_items (column_of_constant k) ≡ replicate n z
constant_valid k z n is long = rw (← is, long) (valid_repeated k.len z)

pub constant_null : (k : ConstantParts) → None ≡ k.scalar.value → valid_items (column_of_constant k) ≡ []
constant_null k is = rw (← is) (valid_nulls k.len)
