-- Plain arrays show what their columns are.
use Rattle.std.proofs.Common.{◌≡◌, ◌∙◌, ℤ, pos, Bool, true, false, List, [], ◌∷◌, map, Some, None, refl, ap, sym}
use Rattle.std.specs.Prelude.{unwrap_or}
use Rattle.fl_types.specs.declared.dtype.DType.TheVariants as dtypes
use Rattle.fl_types.specs.declared.validity.Validity.{Validity}
use Rattle.fl_types.specs.declared.validity.Validity.TheVariants as valid
use Rattle.fl_types.specs.Validities.{items_of, masked, nullability_of}
use Rattle.fl_column.specs.Columns.{Column, PrimitiveParts, column_of_primitive, integers_in, item_validity}
use Rattle.fl_array.specs.Trees.{Primitive}
use Rattle.fl_ops.specs.Normalized.{SameShown, plain_of, zero_under_nulls}

-- ---- 0 under each null changes no item
masked_zeros : (bits : List Bool) (xs : List ℤ) → masked bits (map (λ item. unwrap_or item (pos 0)) (masked bits xs)) ≡ masked bits xs
masked_zeros [] xs = refl
masked_zeros (bit ∷ bits) [] = refl
masked_zeros (true ∷ bits) (x ∷ xs) = ap (λ rest. Some x ∷ rest) (masked_zeros bits xs)
masked_zeros (false ∷ bits) (x ∷ xs) = ap (λ rest. None ∷ rest) (masked_zeros bits xs)

all_zeros : (xs : List ℤ) → map (λ x. Some x) (map (λ item. unwrap_or item (pos 0)) (map (λ x. Some x) xs)) ≡ map (λ x. Some x) xs
all_zeros [] = refl
all_zeros (x ∷ xs) = ap (λ rest. Some x ∷ rest) (all_zeros xs)

null_zeros : (xs : List ℤ) → items_of valid.AllInvalid (map (λ item. unwrap_or item (pos 0)) (items_of valid.AllInvalid xs)) ≡ items_of valid.AllInvalid xs
null_zeros [] = refl
null_zeros (x ∷ xs) = ap (λ rest. None ∷ rest) (null_zeros xs)

pub zeros : (v : Validity) (xs : List ℤ) → items_of v (map (λ item. unwrap_or item (pos 0)) (items_of v xs)) ≡ items_of v xs
zeros valid.NonNullable xs = all_zeros xs
zeros valid.AllValid xs = all_zeros xs
zeros valid.AllInvalid xs = null_zeros xs
zeros (valid.Array bits) xs = masked_zeros bits xs

pub zeros_column : (p : PrimitiveParts) → column_of_primitive (zero_under_nulls p) ≡ column_of_primitive p
zeros_column p = ap (λ items. record { dtype = dtypes.Primitive p.ptype (nullability_of p.validity); items = items }) (zeros p.validity p.slots)

pub zeros_again : (p : PrimitiveParts) → zero_under_nulls (zero_under_nulls p) ≡ zero_under_nulls p
zeros_again p = ap (λ c. record { ptype = p.ptype; slots = integers_in c; validity = p.validity }) (zeros_column p)

-- with its simplest validity and 0 under each null a plain array is that of its column
pub plain_zeros : (a b : PrimitiveParts) → b ≡ record { ptype = a.ptype; slots = a.slots; validity = item_validity (nullability_of a.validity) (column_of_primitive a).items } → column_of_primitive b ≡ column_of_primitive a → zero_under_nulls b ≡ plain_of (column_of_primitive a)
plain_zeros a b parts same =
    ap (λ c. record { ptype = b.ptype; slots = integers_in c; validity = b.validity }) same
    ∙ ap (λ (p : PrimitiveParts). record { ptype = p.ptype; slots = integers_in (column_of_primitive a); validity = p.validity }) parts

-- a plain array with its simplest validity shows what its column's plain array does
pub plain_shown : (a b : PrimitiveParts) (c : Column) → b ≡ record { ptype = a.ptype; slots = a.slots; validity = item_validity (nullability_of a.validity) (column_of_primitive a).items } → column_of_primitive b ≡ column_of_primitive a → column_of_primitive a ≡ c
    → SameShown (Primitive b) (Primitive (plain_of c))
plain_shown a b c parts same is =
    let whole : zero_under_nulls b ≡ plain_of c = plain_zeros a b parts same ∙ ap plain_of is in
    ap Primitive (sym (zeros_again b) ∙ ap zero_under_nulls whole)
