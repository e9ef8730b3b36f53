-- The types of the parts of arrays, by that of the column.
use Rattle.std.proofs.Common.{◌≡◌, true, ap, sym, ◌∙◌}
use Rattle.fl_types.specs.declared.dtype.PType.{PType}
use Rattle.fl_types.specs.Types.{has_ptype}
use Rattle.fl_column.specs.Columns.{Column, PrimitiveParts, column_of_primitive, ptype_of_column}
use Rattle.fl_bitpacking.proofs.SoundParts.{same_ptype_is}
use Rattle.fl_array.specs.BitPackedArrays.{BitPackedArrayParts, tree_of_bitpacked}
use Rattle.fl_array.specs.DeltaArrays.{DeltaArrayParts, tree_of_delta}
use Rattle.fl_array.specs.RLEArrays.{RLEArrayParts, tree_of_rle}
use Rattle.fl_array.specs.Trees.{column}
use Rattle.fl_array.proofs.BitPackedLaws.{bitpacked_dtype}

-- packed items have the type of the column
pub bitpacked_typed : (a : BitPackedArrayParts) (ptype : PType) → has_ptype ptype (column (tree_of_bitpacked a)).dtype ≡ true → a.parts.ptype ≡ ptype
bitpacked_typed a ptype h = sym (same_ptype_is ptype a.parts.ptype (ap (has_ptype ptype) (sym (bitpacked_dtype a)) ∙ h))

-- so have bases
pub delta_typed : (a : DeltaArrayParts) (p : PrimitiveParts) (ptype : PType) → column_of_primitive p ≡ column a.bases → has_ptype ptype (column (tree_of_delta a)).dtype ≡ true → p.ptype ≡ ptype
delta_typed a p ptype e h = ap (λ (c : Column). ptype_of_column c) e ∙ sym (same_ptype_is ptype (ptype_of_column (column a.bases)) h)

-- so have run values
pub rle_typed : (a : RLEArrayParts) (p : PrimitiveParts) (ptype : PType) → column_of_primitive p ≡ column a.values → has_ptype ptype (column (tree_of_rle a)).dtype ≡ true → p.ptype ≡ ptype
rle_typed a p ptype e h = ap (λ (c : Column). ptype_of_column c) e ∙ sym (same_ptype_is ptype (ptype_of_column (column a.values)) h)
