-- Columns that may have no nulls, and have none.
use Rattle.std.proofs.Common.{◌≡◌, ℕ, ◌+◌, ◌∙◌, true, false, length, None, IsTrue, refl, ap, sym}
use Rattle.fl_types.specs.declared.validity.Validity.{Validity}
use Rattle.fl_types.specs.declared.validity.Validity.TheVariants as valid
use Rattle.fl_types.specs.Types.{can_be_null, is_nullable, nullability_in}
use Rattle.fl_types.specs.Validities.{covers, is_valid_at, nullability_of, validity_between}
use Rattle.fl_column.specs.Columns.{BoolParts, Column, PrimitiveParts, column_of_bools, column_of_primitive}
use Rattle.fl_bitpacking.specs.Columns.{BitPackedParts}
use Rattle.fl_bitpacking.specs.Refusals.{AreConsistent}
use Rattle.fl_array.specs.BitPackedArrays.{BitPackedArrayParts, tree_of_bitpacked}
use Rattle.fl_array.specs.DeltaArrays.{DeltaArrayParts, refusal_of_delta, tree_of_delta}
use Rattle.fl_array.specs.FoRArrays.{FoRArrayParts, tree_of_for}
use Rattle.fl_array.specs.NoNulls.{HasNoNulls}
use Rattle.fl_array.specs.Reads.{IsValidityOf}
use Rattle.fl_array.specs.RLEArrays.{RLEArrayParts, refusal_of_rle, tree_of_rle}
use Rattle.fl_array.specs.Trees.{column}
use Rattle.fl_array.proofs.BitPackedLaws.{bitpacked_validity}
use Rattle.fl_array.proofs.DeltaLaws.{delta_validity}
use Rattle.fl_array.proofs.FoRLaws.{for_dtype, for_validity}
use Rattle.fl_array.proofs.FoRSound.{non_nullable_is}
use Rattle.fl_array.proofs.RLELaws.{rle_validity}
use Rattle.fl_array.proofs.ValidityLaws.{validity_of_bools, validity_of_primitive}

all_valid : (v : Validity) (i : ℕ) → can_be_null (nullability_of v) ≡ false → is_valid_at v i ≡ true
all_valid valid.NonNullable i h = refl
all_valid valid.AllValid i h = cc
all_valid valid.AllInvalid i h = cc
all_valid (valid.Array bits) i h = cc

-- by a validity
pub none_shown : (v : Validity) (c : Column) → IsValidityOf v c → HasNoNulls c
none_shown v c s = λ never i h. sym (s.valid i h) ∙ all_valid v i (ap can_be_null s.nullable ∙ never)

without_nulls : (c : Column) → HasNoNulls c → is_nullable c.dtype ≡ false → IsValidityOf valid.NonNullable c
without_nulls c s never = record {
  covered = refl;
  nullable = sym (non_nullable_is (nullability_in c.dtype) never);
  valid = λ i h. sym (s never i h);
}

-- ---- of each kind
pub primitive_has_no_nulls : (p : PrimitiveParts) → IsTrue (covers p.validity (length p.slots)) → HasNoNulls (column_of_primitive p)
primitive_has_no_nulls p covered = none_shown p.validity (column_of_primitive p) (validity_of_primitive p covered)

pub bools_have_no_nulls : (b : BoolParts) → IsTrue (covers b.validity (length b.bits)) → HasNoNulls (column_of_bools b)
bools_have_no_nulls b covered = none_shown b.validity (column_of_bools b) (validity_of_bools b covered)

pub bitpacked_has_no_nulls : (a : BitPackedArrayParts) (parts : BitPackedParts) → parts ≡ a.parts → AreConsistent parts → HasNoNulls (column (tree_of_bitpacked a))
bitpacked_has_no_nulls a parts is s = none_shown a.parts.validity (column (tree_of_bitpacked a)) (bitpacked_validity a (rw (← is) s))

pub for_has_no_nulls : (a : FoRArrayParts) → HasNoNulls (column a.encoded) → HasNoNulls (column (tree_of_for a))
for_has_no_nulls a s = λ never. none_shown valid.NonNullable (column (tree_of_for a)) (for_validity a valid.NonNullable (without_nulls (column a.encoded) s (ap is_nullable (sym (for_dtype a)) ∙ never))) never

pub delta_has_no_nulls : (a : DeltaArrayParts) → refusal_of_delta a ≡ None → HasNoNulls (column (tree_of_delta a))
delta_has_no_nulls a h = none_shown a.parts.validity (column (tree_of_delta a)) (delta_validity a h)

pub rle_has_no_nulls : (a : RLEArrayParts) → refusal_of_rle a ≡ None → HasNoNulls (column a.indices) → HasNoNulls (column (tree_of_rle a))
rle_has_no_nulls a h s = λ never. none_shown (validity_between a.window.offset (a.window.offset + a.window.len) valid.NonNullable) (column (tree_of_rle a)) (rle_validity a valid.NonNullable h (without_nulls (column a.indices) s never)) never
