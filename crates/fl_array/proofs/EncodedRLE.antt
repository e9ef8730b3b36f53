-- What run-length encoding makes.
use Rattle.std.proofs.Common.{◌≡◌, ◌==◌, ◌+◌, ◌/◌, ◌%◌, ℕ, Bool, true, false, not, length, nat_le, nat_lt, Option, Some, None, Ok, IsTrue, refl, ap, sym, ◌∙◌, if◌then◌else◌}
use Rattle.std.specs.Prelude.{Result}
use Rattle.fl_types.specs.declared.error.FastLanesError.{FastLanesError}
use Rattle.fl_types.specs.declared.error.FastLanesError.TheVariants.{BlockOffsetsCount, BlockOffsetsType, ChildLength, ChildNullable, NotInteger, OffsetTooLarge, RangeBeyondChild, RunIndexType}
use Rattle.fl_types.specs.Types.{can_be_null, is_index_type}
use Rattle.fl_types.specs.Validities.{covers, nullability_of}
use Rattle.fl_column.specs.Columns.{PrimitiveParts, column_of_primitive}
use Rattle.fl_column.proofs.ItemLaws.{length-items_of}
use Rattle.fl_codec.specs.Parts.{RunParts, encode_runs}
use Rattle.fl_codec.specs.RunColumns.{contents_refusal, is_run_index_type, run_column, runs_refusal}
use Rattle.fl_codec.specs.Refusals.{otherwise}
use Rattle.fl_codec.specs.RunRefusals.{rle_refusal}
use Rattle.fl_array.specs.RLEArrays.{RLEArrayParts}
use Rattle.fl_array.specs.Trees.{Primitive, column_of_rle}
use Rattle.fl_array.proofs.RLELaws.{decoded_column}

-- equal answers
pub ok_is : {A : Type 0} (x y : A) → (let r : Result A FastLanesError = Ok x in r) ≡ Ok y → x ≡ y
ok_is x y e = cc

chain : (a c d e f g h : Bool) (i j k l m n o p : FastLanesError) (rest : Option FastLanesError)
    → (if a then Some i else if c then Some k else if not d then Some l else if not e then Some m else if not f then Some n else if g then Some o else if not h then Some p else rest)
    ≡ otherwise (if a then Some i else if not true then Some j else if c then Some k else if not d then Some l else if not e then Some m else if not f then Some n else if g then Some o else if not h then Some p else None) rest
chain true c d e f g h i j k l m n o p rest = refl
chain false true d e f g h i j k l m n o p rest = refl
chain false false false e f g h i j k l m n o p rest = refl
chain false false true false f g h i j k l m n o p rest = refl
chain false false true true false g h i j k l m n o p rest = refl
chain false false true true true true h i j k l m n o p rest = refl
chain false false true true true false false i j k l m n o p rest = refl
chain false false true true true false true i j k l m n o p rest = refl

-- plain arrays are judged as their columns are
pub judged_plain : (parts : RunParts) (offset len : ℕ) → IsTrue (covers parts.values.validity (length parts.values.slots)) → IsTrue (covers parts.indices.validity (length parts.indices.slots)) → IsTrue (covers parts.offsets.validity (length parts.offsets.slots))
    → rle_refusal (column_of_primitive parts.values) (column_of_primitive parts.indices) (column_of_primitive parts.offsets) offset len ≡ runs_refusal parts offset len
judged_plain parts offset len v i o =
    let values = length-items_of parts.values.validity parts.values.slots v in
    let indices : length (column_of_primitive parts.indices).items ≡ length parts.indices.slots = length-items_of parts.indices.validity parts.indices.slots i in
    let offsets : length (column_of_primitive parts.offsets).items ≡ length parts.offsets.slots = length-items_of parts.offsets.validity parts.offsets.slots o in
    rw (values, indices, offsets) (sym (chain (nat_le 1024 offset) (can_be_null (nullability_of parts.values.validity)) (is_run_index_type parts.indices.ptype) (is_index_type (column_of_primitive parts.offsets).dtype) (length parts.indices.slots % 1024 == 0) (nat_lt (length parts.indices.slots) (offset + len)) (length parts.offsets.slots == length parts.indices.slots / 1024) OffsetTooLarge NotInteger ChildNullable RunIndexType BlockOffsetsType ChildLength RangeBeyondChild BlockOffsetsCount (contents_refusal parts)))

-- parts that make a column make an array
pub parts_sound : (r : RunParts) (v i o : PrimitiveParts) (len n : ℕ) → (let parts : RunParts = record { values = v; indices = i; offsets = o } in parts) ≡ r → n ≡ len → IsTrue (covers v.validity (length v.slots)) → IsTrue (covers i.validity (length i.slots)) → IsTrue (covers o.validity (length o.slots))
    → runs_refusal r 0 len ≡ None → rle_refusal (column_of_primitive v) (column_of_primitive i) (column_of_primitive o) 0 n ≡ None
parts_sound r v i o len n e is x y z h = rw is (judged_plain (record { values = v; indices = i; offsets = o }) 0 len x y z ∙ (ap (λ (s : RunParts). runs_refusal s 0 len) e ∙ h))

-- its column is theirs
pub parts_back : (r : RunParts) (p v i o : PrimitiveParts) (n : ℕ) → (let parts : RunParts = record { values = v; indices = i; offsets = o } in parts) ≡ r → n ≡ length p.slots → rle_refusal (column_of_primitive v) (column_of_primitive i) (column_of_primitive o) 0 n ≡ None
    → run_column r 0 (length p.slots) ≡ column_of_primitive p → column_of_rle (column_of_primitive v) (column_of_primitive i) (column_of_primitive o) (record { offset = 0; len = n }) ≡ column_of_primitive p
parts_back r p v i o n e is h back =
    let a : RLEArrayParts = record { values = Primitive v; indices = Primitive i; offsets = Primitive o; window = record { offset = 0; len = n } } in
    let parts : RunParts = record { values = v; indices = i; offsets = o } in
    sym (decoded_column a parts h refl refl refl) ∙ (ap (λ (s : RunParts). run_column s 0 n) e ∙ (ap (λ m. run_column r 0 m) is ∙ back))

-- the encoder's parts make an array
pub encoded_sound : (p v i o : PrimitiveParts) (n : ℕ) → (let parts : RunParts = record { values = v; indices = i; offsets = o } in parts) ≡ encode_runs p → n ≡ length p.slots → IsTrue (covers v.validity (length v.slots)) → IsTrue (covers i.validity (length i.slots)) → IsTrue (covers o.validity (length o.slots))
    → runs_refusal (encode_runs p) 0 (length p.slots) ≡ None → rle_refusal (column_of_primitive v) (column_of_primitive i) (column_of_primitive o) 0 n ≡ None
encoded_sound p v i o n e is x y z h = parts_sound (encode_runs p) v i o (length p.slots) n e is x y z h

-- its column is that of the plain array
pub encoded_back : (p v i o : PrimitiveParts) (n : ℕ) → (let parts : RunParts = record { values = v; indices = i; offsets = o } in parts) ≡ encode_runs p → n ≡ length p.slots → rle_refusal (column_of_primitive v) (column_of_primitive i) (column_of_primitive o) 0 n ≡ None
    → run_column (encode_runs p) 0 (length p.slots) ≡ column_of_primitive p → column_of_rle (column_of_primitive v) (column_of_primitive i) (column_of_primitive o) (record { offset = 0; len = n }) ≡ column_of_primitive p
encoded_back p v i o n e is h back = parts_back (encode_runs p) p v i o n e is h back
