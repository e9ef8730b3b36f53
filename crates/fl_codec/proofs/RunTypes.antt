-- What is known of run values, run indices and run offsets of accepted types and lengths.
use Rattle.std.proofs.Common.{◌≡◌, ◌==◌, ◌+◌, ◌/◌, ◌%◌, ◌<◌, ◌≤◌, ℕ, Bool, true, false, not, length, nat_le, nat_lt, Some, None, IsTrue, refl, if◌then◌else◌}
use Rattle.std.proofs.lemmas.Bool.{eqb-true, leb-false, ltb-false, lt-leb, le-ltb, eq-eqb}
use Rattle.fl_types.specs.declared.error.FastLanesError.{FastLanesError}
use Rattle.fl_types.specs.declared.error.FastLanesError.TheVariants.{BlockOffsetsCount, BlockOffsetsType, ChildLength, ChildNullable, NotInteger, OffsetTooLarge, RangeBeyondChild, RunIndexType}
use Rattle.fl_types.specs.Types.{is_index_type, is_integer, is_nullable}
use Rattle.fl_types.specs.Validities.{covers}
use Rattle.fl_column.specs.Columns.{Column, column_of_primitive}
use Rattle.fl_column.proofs.ItemLaws.{length-items_of}
use Rattle.fl_codec.specs.Parts.{RunParts}
use Rattle.fl_codec.specs.RunColumns.{runs_refusal}
use Rattle.fl_codec.specs.RunRefusals.{is_run_index_dtype, rle_refusal, rle_types_refusal}

all_eight : (a b c d e f g h : Bool) (i j k l m n o p : FastLanesError) → (if a then Some i else if not b then Some j else if c then Some k else if not d then Some l else if not e then Some m else if not f then Some n else if g then Some o else if not h then Some p else None) ≡ None
    → (a ≡ false) × (b ≡ true) × (c ≡ false) × (d ≡ true) × (e ≡ true) × (f ≡ true) × (g ≡ false) × (h ≡ true)
all_eight true b c d e f g h i j k l m n o p r = cc
all_eight false false c d e f g h i j k l m n o p r = cc
all_eight false true true d e f g h i j k l m n o p r = cc
all_eight false true false false e f g h i j k l m n o p r = cc
all_eight false true false true false f g h i j k l m n o p r = cc
all_eight false true false true true false g h i j k l m n o p r = cc
all_eight false true false true true true true h i j k l m n o p r = cc
all_eight false true false true true true false false i j k l m n o p r = cc
all_eight false true false true true true false true i j k l m n o p r = (refl, refl, refl, refl, refl, refl, refl, refl)

-- columns of accepted types and lengths
pub record HaveRunTypes (values indices offsets : Column) (offset len : ℕ) : Type 0 where
  pub low : offset < 1024
  pub integer : is_integer values.dtype ≡ true
  pub non_nullable : is_nullable values.dtype ≡ false
  pub index : is_run_index_dtype indices.dtype ≡ true
  pub positions : is_index_type offsets.dtype ≡ true
  pub whole : length indices.items % 1024 ≡ 0
  pub range : offset + len ≤ length indices.items
  pub count : length offsets.items ≡ length indices.items / 1024

pub have_types : (values indices offsets : Column) (offset len : ℕ) → rle_types_refusal values.dtype indices.dtype offsets.dtype (length indices.items) (length offsets.items) offset len ≡ None → HaveRunTypes values indices offsets offset len
have_types values indices offsets offset len h =
    let total = length indices.items in
    let all = all_eight (nat_le 1024 offset) (is_integer values.dtype) (is_nullable values.dtype) (is_run_index_dtype indices.dtype) (is_index_type offsets.dtype) (total % 1024 == 0) (nat_lt total (offset + len)) (length offsets.items == total / 1024) OffsetTooLarge NotInteger ChildNullable RunIndexType BlockOffsetsType ChildLength RangeBeyondChild BlockOffsetsCount h in
    record {
      low = leb-false 1024 offset all.0;
      integer = all.1;
      non_nullable = all.2;
      index = all.3;
      positions = all.4;
      whole = eqb-true (total % 1024) 0 all.5;
      range = ltb-false total (offset + len) all.6;
      count = eqb-true (length offsets.items) (total / 1024) all.7;
    }

-- of decoded columns the contents alone are left to be judged
pub judged : (parts : RunParts) (offset len : ℕ) → IsTrue (covers parts.values.validity (length parts.values.slots)) → IsTrue (covers parts.indices.validity (length parts.indices.slots)) → IsTrue (covers parts.offsets.validity (length parts.offsets.slots))
    → rle_types_refusal (column_of_primitive parts.values).dtype (column_of_primitive parts.indices).dtype (column_of_primitive parts.offsets).dtype (length (column_of_primitive parts.indices).items) (length (column_of_primitive parts.offsets).items) offset len ≡ None
    → runs_refusal parts offset len ≡ rle_refusal (column_of_primitive parts.values) (column_of_primitive parts.indices) (column_of_primitive parts.offsets) offset len
judged parts offset len v i o h =
    let s = have_types (column_of_primitive parts.values) (column_of_primitive parts.indices) (column_of_primitive parts.offsets) offset len h in
    let values = length-items_of parts.values.validity parts.values.slots v in
    let indices : length (column_of_primitive parts.indices).items ≡ length parts.indices.slots = length-items_of parts.indices.validity parts.indices.slots i in
    let offsets : length (column_of_primitive parts.offsets).items ≡ length parts.offsets.slots = length-items_of parts.offsets.validity parts.offsets.slots o in
    let range = s.range in
    let whole = s.whole in
    let count = s.count in
    let whole_too : length parts.indices.slots % 1024 ≡ 0 = rw indices at whole in
    let range_too : offset + len ≤ length parts.indices.slots = rw indices at range in
    let count_too : length parts.offsets.slots ≡ length parts.indices.slots / 1024 = rw (indices, offsets) at count in
    rw (h, lt-leb 1024 offset s.low, s.non_nullable, s.index, s.positions, eq-eqb (length parts.indices.slots % 1024) 0 whole_too, le-ltb (length parts.indices.slots) (offset + len) range_too, eq-eqb (length parts.offsets.slots) (length parts.indices.slots / 1024) count_too, values) refl
