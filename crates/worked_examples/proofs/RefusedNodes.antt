-- The first refusals of nodes, by computation.
use Rattle.std.specs.Prelude.{◌≡◌, ◌^◌, ◌-◌, ℕ, pos, List, [], ◌∷◌, codes, replicate, Some, Ok, Err, is_ok, true, refl}
use Rattle.fl_types.specs.declared.dtype.DType.{DType}
use Rattle.fl_types.specs.declared.dtype.DType.TheVariants as dtypes
use Rattle.fl_types.specs.declared.dtype.Nullability.TheVariants.{NonNullable, Nullable}
use Rattle.fl_types.specs.declared.dtype.PType.TheVariants.{U8, U16, U32}
use Rattle.fl_types.specs.declared.error.FastLanesError.TheVariants.{BadMetadata, BlockBoundary, BlockSpan, BufferCount, ChildCount, ChildLength, ChildMismatch, LengthOverflow, NotInteger, NullReference, OffsetTooLarge, PackedLength, PatchLength, RangeBeyondChild, RunIndexType, TypeMismatch, UnknownId, UnknownType, WidthTooLarge}
use Rattle.fl_metadata.specs.WireReading.{field_at, fields_of, fields_up_to, groups_at, payload_at}
use Rattle.fl_metadata.specs.Schemas.{are_within, has_kinds, last_values, message_at, number_at, optional_number_at, said, values_of}
use Rattle.fl_metadata.specs.Messages.{bit_packed_blocked_of, bit_packed_of, delta_metadata_of, for_chunked_of, patches_in, rle_of}
use Rattle.fl_metadata.specs.Scalars.{scalar_of}
use Rattle.fl_array.specs.Trees.{Constant}
use Rattle.fl_serialized.specs.Nodes.{NoMore, Node, Nodes, Of, bitpacked_v1_id, bitpacked_v2_id, bool_id, constant_id, delta_id, for_v1_id, for_v2_id, nodes_of, primitive_id, rle_id}
use Rattle.fl_serde.specs.Leaves.{bit_of_bytes}
use Rattle.fl_serde.specs.Plain.{plain_of}
use Rattle.fl_serde.specs.Reading.{reading}

-- the types of nodes
abbrev u8s : DType
u8s = dtypes.Primitive U8 NonNullable

abbrev u16s : DType
u16s = dtypes.Primitive U16 NonNullable

abbrev u32s : DType
u32s = dtypes.Primitive U32 NonNullable

-- a node of any parts
abbrev node : List ℕ → DType → ℕ → List ℕ → List (List ℕ) → Nodes → Node
node id dtype len metadata buffers children = Of (record { id = id; dtype = dtype; len = len; metadata = metadata; buffers = buffers }) children

-- the bytes of 1, 2, 3 at width 2
abbrev three_bytes : List ℕ
three_bytes = 1 ∷ 0 ∷ 0 ∷ 0 ∷ 2 ∷ 0 ∷ 0 ∷ 0 ∷ 3 ∷ replicate 247 0

-- three u32 in packed blocks of one width, by their metadata
abbrev packed_node : List ℕ → Node
packed_node metadata = node bitpacked_v1_id u32s 3 metadata (three_bytes ∷ []) NoMore

-- a leaf without metadata and children
abbrev leaf_node : DType → ℕ → List ℕ → Node
leaf_node dtype len bytes = node primitive_id dtype len [] (bytes ∷ []) NoMore

-- booleans without nulls
abbrev bits_node : ℕ → List ℕ → Node
bits_node len bytes = node bool_id (dtypes.Bool NonNullable) len [] (bytes ∷ []) NoMore

-- three u8
abbrev three : Node
three = leaf_node u8s 3 (1 ∷ 2 ∷ 3 ∷ [])

-- ---- ids and types
pub unknown_id : reading (node (codes "fastlanes.alp") u8s 0 [] [] NoMore) ≡ Err UnknownId
unknown_id = refl

pub booleans_as_integers : reading (node primitive_id (dtypes.Bool NonNullable) 3 (0x08 ∷ []) [] NoMore) ≡ Err NotInteger
booleans_as_integers = refl

pub integers_as_booleans : reading (node bool_id u8s 3 (0x08 ∷ []) [] NoMore) ≡ Err TypeMismatch
integers_as_booleans = refl

-- ---- metadata
pub cut_field : reading (packed_node (0x08 ∷ [])) ≡ Err BadMetadata
unfolding bit_packed_of values_of fields_of fields_up_to field_at payload_at groups_at
cut_field = refl

pub other_wire_type : reading (packed_node (0x0d ∷ 0x00 ∷ 0x00 ∷ 0x00 ∷ 0x00 ∷ [])) ≡ Err BadMetadata
unfolding bit_packed_of values_of fields_of fields_up_to field_at payload_at groups_at said has_kinds
other_wire_type = refl

pub unknown_type : reading (node rle_id u8s 0 (0x18 ∷ 0x09 ∷ []) [] NoMore) ≡ Err UnknownType
unfolding rle_of values_of fields_of fields_up_to field_at payload_at groups_at said has_kinds are_within last_values number_at optional_number_at
unknown_type = refl

pub null_without_nulls : reading (node constant_id u8s 3 [] ([] ∷ []) NoMore) ≡ Err BadMetadata
unfolding scalar_of values_of fields_of fields_up_to said has_kinds are_within last_values optional_number_at
null_without_nulls = refl

pub no_message : reading (node primitive_id u8s 0 (0x0b ∷ []) ([] ∷ []) NoMore) ≡ Err BadMetadata
unfolding fields_of fields_up_to field_at payload_at groups_at
no_message = refl

-- ---- buffers and counts
pub two_buffers : reading (node bitpacked_v1_id u32s 3 (0x08 ∷ 0x02 ∷ []) (three_bytes ∷ [] ∷ []) NoMore) ≡ Err BufferCount
unfolding bit_packed_of values_of fields_of fields_up_to field_at payload_at groups_at said has_kinds are_within last_values number_at optional_number_at message_at patches_in
two_buffers = refl

pub short_buffer : reading (node primitive_id u16s 3 [] ((1 ∷ 2 ∷ 3 ∷ []) ∷ []) (nodes_of (three ∷ three ∷ []))) ≡ Err PackedLength
unfolding fields_of fields_up_to
short_buffer = refl

pub validity_without_nulls : reading (node primitive_id u8s 3 [] ((1 ∷ 2 ∷ 3 ∷ []) ∷ []) (nodes_of (bits_node 3 (7 ∷ []) ∷ []))) ≡ Err ChildCount
unfolding fields_of fields_up_to bit_of_bytes
validity_without_nulls = refl

pub validity_of_validity : reading (node primitive_id (dtypes.Primitive U8 Nullable) 3 [] ((1 ∷ 2 ∷ 3 ∷ []) ∷ []) (nodes_of (node bool_id (dtypes.Bool NonNullable) 3 [] ((7 ∷ []) ∷ []) (nodes_of (bits_node 3 (7 ∷ []) ∷ [])) ∷ []))) ≡ Err ChildCount
unfolding fields_of fields_up_to
validity_of_validity = refl

-- ---- bounds
-- three u32 in packed blocks of a width each, by their metadata and boundaries of 16 bits
abbrev blocked_node : List ℕ → ℕ → List ℕ → Node
blocked_node metadata count boundaries = node bitpacked_v2_id u32s 3 metadata (three_bytes ∷ []) (nodes_of (leaf_node u16s count boundaries ∷ []))

pub blocked_offset : reading (blocked_node (0x08 ∷ 0x80 ∷ 0x08 ∷ []) 9 []) ≡ Err OffsetTooLarge
unfolding bit_packed_blocked_of values_of fields_of fields_up_to field_at payload_at groups_at said has_kinds are_within last_values number_at optional_number_at message_at patches_in
blocked_offset = refl

pub longest : reading (node for_v2_id u8s (2 ^ 64 - 1) [] [] (nodes_of (three ∷ three ∷ []))) ≡ Err LengthOverflow
unfolding for_chunked_of values_of fields_of fields_up_to said has_kinds are_within last_values number_at optional_number_at
longest = refl

pub uneven_deltas : reading (node delta_id u8s 0 (0x08 ∷ 0xe8 ∷ 0x07 ∷ []) [] (nodes_of (three ∷ three ∷ []))) ≡ Err ChildLength
unfolding delta_metadata_of values_of fields_of fields_up_to field_at payload_at groups_at said has_kinds are_within last_values number_at optional_number_at
uneven_deltas = refl

-- ---- child by child
pub other_type : reading (node for_v1_id u8s 3 (0x20 ∷ 0x00 ∷ []) [] (nodes_of (leaf_node u16s 3 (replicate 6 0) ∷ []))) ≡ Err ChildMismatch
unfolding scalar_of values_of fields_of fields_up_to field_at payload_at groups_at said has_kinds are_within last_values optional_number_at
other_type = refl

-- a child of an unknown id
abbrev unknown : ℕ → Node
unknown len = node (codes "fastlanes.alp") u8s len [] [] NoMore

pub first_child_first : reading (node for_v2_id u8s 3 [] [] (nodes_of (unknown 3 ∷ unknown 9 ∷ []))) ≡ Err UnknownId
unfolding for_chunked_of values_of fields_of fields_up_to said has_kinds are_within last_values number_at optional_number_at
first_child_first = refl

pub shape_first : reading (node for_v2_id u8s 3 [] [] (nodes_of (unknown 4 ∷ unknown 1 ∷ []))) ≡ Err ChildMismatch
unfolding for_chunked_of values_of fields_of fields_up_to said has_kinds are_within last_values number_at optional_number_at
shape_first = refl

-- ---- patches
-- three u32 at width 2 with a patches message of two bytes, and patches of u8 indices
abbrev patched_node : List ℕ → ℕ → List ℕ → List ℕ → Node
patched_node patches count indices values = node bitpacked_v1_id u32s 3 (0x08 ∷ 0x02 ∷ 0x1a ∷ patches) (three_bytes ∷ []) (nodes_of (leaf_node u8s count indices ∷ leaf_node u32s count values ∷ []))

pub no_patch : reading (patched_node (0x00 ∷ []) 0 [] []) ≡ Err PatchLength
unfolding bit_packed_of values_of fields_of fields_up_to field_at payload_at groups_at said has_kinds are_within last_values number_at optional_number_at message_at patches_in plain_of
no_patch = refl

-- patches come before the width
pub patches_before_width : reading (node bitpacked_v1_id u32s 3 (0x08 ∷ 0x21 ∷ 0x1a ∷ 0x00 ∷ []) (three_bytes ∷ []) (nodes_of (leaf_node u8s 0 [] ∷ leaf_node u32s 0 [] ∷ []))) ≡ Err PatchLength
unfolding bit_packed_of values_of fields_of fields_up_to field_at payload_at groups_at said has_kinds are_within last_values number_at optional_number_at message_at patches_in plain_of
patches_before_width = refl

-- ---- constructors
pub wide : reading (packed_node (0x08 ∷ 0x21 ∷ [])) ≡ Err WidthTooLarge
unfolding bit_packed_of values_of fields_of fields_up_to field_at payload_at groups_at said has_kinds are_within last_values number_at optional_number_at message_at patches_in
wide = refl

pub wider : reading (packed_node (0x08 ∷ 0xac ∷ 0x02 ∷ [])) ≡ Err WidthTooLarge
unfolding bit_packed_of values_of fields_of fields_up_to field_at payload_at groups_at said has_kinds are_within last_values number_at optional_number_at message_at patches_in
wider = refl

pub far : reading (packed_node (0x08 ∷ 0x02 ∷ 0x10 ∷ 0x80 ∷ 0x08 ∷ [])) ≡ Err OffsetTooLarge
unfolding bit_packed_of values_of fields_of fields_up_to field_at payload_at groups_at said has_kinds are_within last_values number_at optional_number_at message_at patches_in
far = refl

pub short_packed : reading (packed_node (0x08 ∷ 0x03 ∷ [])) ≡ Err PackedLength
unfolding bit_packed_of values_of fields_of fields_up_to field_at payload_at groups_at said has_kinds are_within last_values number_at optional_number_at message_at patches_in
short_packed = refl

pub uneven_boundary : reading (blocked_node (0x10 ∷ 0x01 ∷ []) 2 (0 ∷ 0 ∷ 100 ∷ 0 ∷ [])) ≡ Err BlockBoundary
unfolding bit_packed_blocked_of values_of fields_of fields_up_to field_at payload_at groups_at said has_kinds are_within last_values number_at optional_number_at message_at patches_in
uneven_boundary = refl

pub short_span : reading (blocked_node (0x10 ∷ 0x01 ∷ []) 2 (0 ∷ 0 ∷ 128 ∷ 0 ∷ [])) ≡ Err BlockSpan
unfolding bit_packed_blocked_of values_of fields_of fields_up_to field_at payload_at groups_at said has_kinds are_within last_values number_at optional_number_at message_at patches_in
short_span = refl

pub null_reference : reading (node for_v1_id u8s 3 [] [] (nodes_of (three ∷ []))) ≡ Err NullReference
unfolding scalar_of values_of fields_of fields_up_to said has_kinds are_within last_values optional_number_at
null_reference = refl

pub run_index_type : reading (node rle_id u8s 0 (0x18 ∷ 0x02 ∷ []) [] (nodes_of (leaf_node u8s 0 [] ∷ leaf_node u32s 0 [] ∷ leaf_node u8s 0 [] ∷ []))) ≡ Err RunIndexType
unfolding rle_of values_of fields_of fields_up_to field_at payload_at groups_at said has_kinds are_within last_values number_at optional_number_at
run_index_type = refl

pub far_runs : reading (node rle_id u8s 0 (0x18 ∷ 0x02 ∷ 0x30 ∷ 0xff ∷ 0xff ∷ 0xff ∷ 0xff ∷ 0xff ∷ 0xff ∷ 0xff ∷ 0xff ∷ 0xff ∷ 0x01 ∷ []) [] (nodes_of (leaf_node u8s 0 [] ∷ leaf_node u32s 0 [] ∷ leaf_node u8s 0 [] ∷ []))) ≡ Err OffsetTooLarge
unfolding rle_of values_of fields_of fields_up_to field_at payload_at groups_at said has_kinds are_within last_values number_at optional_number_at
far_runs = refl

pub beyond_deltas : reading (node delta_id u8s 0 (0x10 ∷ 0x05 ∷ []) [] (nodes_of (leaf_node u8s 0 [] ∷ leaf_node u8s 0 [] ∷ []))) ≡ Err RangeBeyondChild
unfolding delta_metadata_of values_of fields_of fields_up_to field_at payload_at groups_at said has_kinds are_within last_values number_at optional_number_at
beyond_deltas = refl

-- ---- accepted, however long
pub longest_constant : reading (node constant_id u8s (2 ^ 64 - 1) (0x20 ∷ 0x05 ∷ []) [] NoMore) ≡ Ok (Constant (record { scalar = record { dtype = u8s; value = Some (pos 5) }; len = 2 ^ 64 - 1 }))
unfolding scalar_of values_of fields_of fields_up_to field_at payload_at groups_at said has_kinds are_within last_values optional_number_at
longest_constant = refl

-- a width of 0 needs no bytes, whatever the length
pub longest_packed : is_ok (reading (node bitpacked_v1_id u32s (2 ^ 64 - 1024) [] ([] ∷ []) NoMore)) ≡ true
unfolding bit_packed_of values_of fields_of fields_up_to said has_kinds are_within last_values number_at optional_number_at message_at patches_in
longest_packed = refl

pub too_long_packed : reading (node bitpacked_v1_id u32s (2 ^ 64 - 1) [] ([] ∷ []) NoMore) ≡ Err LengthOverflow
unfolding bit_packed_of values_of fields_of fields_up_to said has_kinds are_within last_values number_at optional_number_at message_at patches_in
too_long_packed = refl

-- ---- a validity is judged as any child
-- three u8 that may be null, with this validity
abbrev with_validity : Node → Node
with_validity validity = node primitive_id (dtypes.Primitive U8 Nullable) 3 [] ((1 ∷ 2 ∷ 3 ∷ []) ∷ []) (nodes_of (validity ∷ []))

pub validity_read : is_ok (reading (with_validity (bits_node 3 (255 ∷ [])))) ≡ true
unfolding fields_of fields_up_to bit_of_bytes
validity_read = refl

pub validity_of_a_constant : reading (with_validity (node constant_id (dtypes.Bool NonNullable) 3 [] [] NoMore)) ≡ Err NotInteger
unfolding fields_of fields_up_to
validity_of_a_constant = refl

pub unknown_validity : reading (with_validity (node (codes "fastlanes.alp") (dtypes.Bool NonNullable) 3 [] [] NoMore)) ≡ Err UnknownId
unfolding fields_of fields_up_to
unknown_validity = refl

pub short_validity : reading (with_validity (bits_node 2 (3 ∷ []))) ≡ Err ChildMismatch
unfolding fields_of fields_up_to bit_of_bytes
short_validity = refl

pub nullable_validity : reading (with_validity (node bool_id (dtypes.Bool Nullable) 3 [] ((7 ∷ []) ∷ []) NoMore)) ≡ Err ChildMismatch
unfolding fields_of fields_up_to
nullable_validity = refl
