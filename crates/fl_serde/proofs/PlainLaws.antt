-- Plain arrays, and their columns made plain.
use Rattle.std.proofs.Common.{◌≡◌, ℤ, pos, List, [], ◌∷◌, map, refl, ap}
use Rattle.std.specs.Prelude.{Some, unwrap_or}
use Rattle.fl_types.specs.declared.dtype.PType.{PType}
use Rattle.fl_types.specs.declared.dtype.Nullability.TheVariants.{NonNullable, Nullable}
use Rattle.fl_types.specs.declared.validity.Validity.{Validity}
use Rattle.fl_types.specs.declared.validity.Validity.TheVariants as valid
use Rattle.fl_types.specs.Validities.{nullability_of}
use Rattle.fl_column.specs.Columns.{PrimitiveParts, column_of_primitive, primitive_of_options}
use Rattle.fl_serde.specs.Plain.{plain_of}

-- integers without a null
pub integers_again : (zs : List ℤ) → map (λ item. unwrap_or item (pos 0)) (map (λ z. Some z) zs) ≡ zs
integers_again [] = refl
integers_again (z ∷ zs) = ap (λ l. z ∷ l) (integers_again zs)

same_parts : (ptype : PType) (zs : List ℤ) (v : Validity) → nullability_of v ≡ NonNullable → plain_of (column_of_primitive (record { ptype = ptype; slots = zs; validity = v })) ≡ record { ptype = ptype; slots = zs; validity = v }
unfolding plain_of
same_parts ptype zs valid.NonNullable e = rw (integers_again zs) refl
same_parts ptype zs valid.AllValid e = absurd cc
same_parts ptype zs valid.AllInvalid e = absurd cc
same_parts ptype zs (valid.Array bits) e = absurd cc

-- a plain array without nulls is that of its column
pub plain_same : (p : PrimitiveParts) → nullability_of p.validity ≡ NonNullable → plain_of (column_of_primitive p) ≡ p
plain_same p e = same_parts p.ptype p.slots p.validity e

-- where nulls may stand, it is that of the column's items
pub plain_nulls : (p : PrimitiveParts) → nullability_of p.validity ≡ Nullable → plain_of (column_of_primitive p) ≡ primitive_of_options p.ptype (column_of_primitive p).items
unfolding plain_of
plain_nulls p e = rw e refl
