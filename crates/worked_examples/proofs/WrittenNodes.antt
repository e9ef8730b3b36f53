-- The nodes that arrays are written as, and what these are read as, by computation.
use Rattle.std.specs.Prelude.{◌≡◌, ℕ, pos, negsuc, true, false, List, [], ◌∷◌, map, replicate, None, Some, Ok, refl}
use Rattle.fastlanes.specs.Layout.{from_bits}
use Rattle.fl_types.specs.declared.dtype.DType.{DType}
use Rattle.fl_types.specs.declared.dtype.DType.TheVariants as dtypes
use Rattle.fl_types.specs.declared.dtype.Nullability.TheVariants.{NonNullable, Nullable}
use Rattle.fl_types.specs.declared.dtype.PType.{PType}
use Rattle.fl_types.specs.declared.dtype.PType.TheVariants.{I16, I32, U8, U16, U32, U64}
use Rattle.fl_types.specs.declared.validity.Validity.TheVariants as valid
use Rattle.fl_column.specs.Columns.{PrimitiveParts, non_nullable}
use Rattle.fl_bitpacking.specs.Columns.{BitPackedParts}
use Rattle.fl_metadata.specs.WireReading.{field_at, fields_of, fields_up_to, groups_at, payload_at}
use Rattle.fl_metadata.specs.Schemas.{are_within, has_kinds, last_values, message_at, number_at, optional_number_at, said, values_of}
use Rattle.fl_metadata.specs.Messages.{bit_packed_blocked_of, bit_packed_of, delta_metadata_of, for_chunked_of, patches_in}
use Rattle.fl_metadata.specs.Scalars.{scalar_of}
use Rattle.fl_metadata.specs.WrittenText.{field_text, groups_text, message_text, varint_text}
use Rattle.fl_array.specs.Trees.{BitPackedBlocked, BitPackedGlobal, Constant, Delta, FoRChunked, FoRGlobal, Primitive, Tree}
use Rattle.fl_serialized.specs.Nodes.{NoMore, Node, Nodes, Of, bitpacked_v1_id, bitpacked_v2_id, bool_id, constant_id, for_v1_id, nodes_of, primitive_id}
use Rattle.fl_serde.specs.Leaves.{byte_of_bits, bytes_of_bits, bytes_of_slots}
use Rattle.fl_serde.specs.Plain.{plain_of}
use Rattle.fl_serde.specs.Reading.{reading}
use Rattle.fl_serde.specs.Writing.{metadata_of, written}

-- natural numbers as a plain array without nulls
abbrev plain : PType → List ℕ → PrimitiveParts
plain ptype numbers = non_nullable ptype (map (λ n. pos n) numbers)

-- packed bytes of a type, without nulls and patches
abbrev bytes_parts : PType → List ℕ → ℕ → ℕ → BitPackedParts
bytes_parts ptype packed offset len = record { packed = packed; ptype = ptype; validity = valid.NonNullable; patches = None; offset = offset; len = len }

-- the bytes of 1, 2, 3 as u32 at width 2
abbrev three_bytes : List ℕ
three_bytes = 1 ∷ 0 ∷ 0 ∷ 0 ∷ 2 ∷ 0 ∷ 0 ∷ 0 ∷ 3 ∷ replicate 247 0

-- 1, 2, 3 as u32 at width 2
abbrev one_two_three : Tree
one_two_three = BitPackedGlobal (bytes_parts U32 three_bytes 0 3) 2

-- the same between boundaries
abbrev blocked : Tree
blocked = BitPackedBlocked (bytes_parts U32 three_bytes 0 3) (Primitive (plain U16 (0 ∷ 256 ∷ [])))

-- 1152 bytes at width 9 from an offset on, the last of 513 items patched
abbrev one_patch : Tree
one_patch = BitPackedGlobal (record {
  packed = replicate 1152 0;
  ptype = I32;
  validity = valid.NonNullable;
  patches = Some (record { array_len = 513; offset = 0; indices = plain U16 (512 ∷ []); values = plain I32 (512 ∷ []); chunk_offsets = Some (plain U64 (0 ∷ [])) });
  offset = 0;
  len = 513;
}) 9

-- its items 500 to 512
abbrev sliced_patch : Tree
sliced_patch = BitPackedGlobal (record {
  packed = replicate 1152 0;
  ptype = I32;
  validity = valid.NonNullable;
  patches = Some (record { array_len = 13; offset = 500; indices = plain U16 (512 ∷ []); values = plain I32 (512 ∷ []); chunk_offsets = None });
  offset = 500;
  len = 13;
}) 9

-- u64 deltas of one block, all 0, from an offset on
abbrev no_changes : ℕ → Tree
no_changes offset = Delta (Constant (record { scalar = record { dtype = dtypes.Primitive U64 NonNullable; value = Some (pos 9) }; len = 16 })) (Constant (record { scalar = record { dtype = dtypes.Primitive U64 NonNullable; value = Some (pos 0) }; len = 1024 })) (record { validity = valid.NonNullable; offset = offset; len = 5 })

-- references 5 and -7 over zeros, from item 500 of the first chunk on
abbrev two_references : Tree
two_references = FoRChunked (Primitive (plain I16 (replicate 1000 0))) (Primitive (record { ptype = I16; slots = pos 5 ∷ negsuc 6 ∷ []; validity = valid.NonNullable })) 500

-- three i32 over reference -5
abbrev framed : Tree
framed = FoRGlobal (BitPackedGlobal (bytes_parts I32 three_bytes 0 3) 2) (record { dtype = dtypes.Primitive I32 NonNullable; value = Some (negsuc 4) })

-- a node of any parts
abbrev node : List ℕ → DType → ℕ → List ℕ → List (List ℕ) → Nodes → Node
node id dtype len metadata buffers children = Of (record { id = id; dtype = dtype; len = len; metadata = metadata; buffers = buffers }) children

-- ---- metadata
pub packed_metadata : metadata_of one_two_three ≡ 0x08 ∷ 0x02 ∷ []
unfolding message_text field_text varint_text groups_text
packed_metadata = refl

pub delta_metadata : metadata_of (no_changes 100) ≡ 0x08 ∷ 0x80 ∷ 0x08 ∷ 0x10 ∷ 0x64 ∷ []
unfolding message_text field_text varint_text groups_text
delta_metadata = refl

pub for_chunked_metadata : metadata_of two_references ≡ 0x08 ∷ 0xf4 ∷ 0x03 ∷ []
unfolding message_text field_text varint_text groups_text
for_chunked_metadata = refl

pub for_metadata : metadata_of framed ≡ 0x18 ∷ 0x09 ∷ []
unfolding message_text field_text varint_text groups_text
for_metadata = refl

pub for_zero_metadata : metadata_of (FoRGlobal (Primitive (plain U8 [])) (record { dtype = dtypes.Primitive U8 NonNullable; value = Some (pos 0) })) ≡ 0x20 ∷ 0x00 ∷ []
unfolding message_text field_text varint_text groups_text
for_zero_metadata = refl

pub patched_metadata : metadata_of one_patch ≡ 0x08 ∷ 0x09 ∷ 0x1a ∷ 0x08 ∷ 0x08 ∷ 0x01 ∷ 0x18 ∷ 0x01 ∷ 0x20 ∷ 0x01 ∷ 0x28 ∷ 0x03 ∷ []
unfolding message_text field_text varint_text groups_text
patched_metadata = refl

pub sliced_metadata : metadata_of sliced_patch ≡ 0x08 ∷ 0x09 ∷ 0x10 ∷ 0xf4 ∷ 0x03 ∷ 0x1a ∷ 0x07 ∷ 0x08 ∷ 0x01 ∷ 0x10 ∷ 0xf4 ∷ 0x03 ∷ 0x18 ∷ 0x01 ∷ []
unfolding message_text field_text varint_text groups_text
sliced_metadata = refl

-- ---- bytes
pub slots_row : bytes_of_slots I16 (pos 1 ∷ negsuc 1 ∷ []) ≡ 1 ∷ 0 ∷ 254 ∷ 255 ∷ []
slots_row = refl

pub bits_row : bytes_of_bits (true ∷ false ∷ true ∷ false ∷ false ∷ false ∷ false ∷ true ∷ true ∷ []) ≡ 133 ∷ 1 ∷ []
unfolding from_bits byte_of_bits
bits_row = refl

-- ---- nodes
pub packed_row : written one_two_three ≡ node bitpacked_v1_id (dtypes.Primitive U32 NonNullable) 3 (0x08 ∷ 0x02 ∷ []) (three_bytes ∷ []) NoMore
unfolding message_text field_text varint_text groups_text
packed_row = refl

-- the same between boundaries
pub blocked_row : written blocked ≡ node bitpacked_v2_id (dtypes.Primitive U32 NonNullable) 3 (0x10 ∷ 0x01 ∷ []) (three_bytes ∷ []) (nodes_of (node primitive_id (dtypes.Primitive U16 NonNullable) 2 [] ((0 ∷ 0 ∷ 0 ∷ 1 ∷ []) ∷ []) NoMore ∷ []))
unfolding message_text field_text varint_text groups_text
blocked_row = refl

pub framed_row : written framed ≡ node for_v1_id (dtypes.Primitive I32 NonNullable) 3 (0x18 ∷ 0x09 ∷ []) [] (nodes_of (node bitpacked_v1_id (dtypes.Primitive I32 NonNullable) 3 (0x08 ∷ 0x02 ∷ []) (three_bytes ∷ []) NoMore ∷ []))
unfolding message_text field_text varint_text groups_text
framed_row = refl

-- patches: the index, the value and the chunk offset
pub patched_row : written one_patch ≡ node bitpacked_v1_id (dtypes.Primitive I32 NonNullable) 513 (0x08 ∷ 0x09 ∷ 0x1a ∷ 0x08 ∷ 0x08 ∷ 0x01 ∷ 0x18 ∷ 0x01 ∷ 0x20 ∷ 0x01 ∷ 0x28 ∷ 0x03 ∷ []) (replicate 1152 0 ∷ [])
    (nodes_of (node primitive_id (dtypes.Primitive U16 NonNullable) 1 [] ((0 ∷ 2 ∷ []) ∷ []) NoMore ∷ node primitive_id (dtypes.Primitive I32 NonNullable) 1 [] ((0 ∷ 2 ∷ 0 ∷ 0 ∷ []) ∷ []) NoMore ∷ node primitive_id (dtypes.Primitive U64 NonNullable) 1 [] ((0 ∷ 0 ∷ 0 ∷ 0 ∷ 0 ∷ 0 ∷ 0 ∷ 0 ∷ []) ∷ []) NoMore ∷ []))
unfolding message_text field_text varint_text groups_text
patched_row = refl

-- nulls: a validity child where the validity has nulls by its form
pub some_null : written (Primitive (record { ptype = U8; slots = pos 5 ∷ pos 0 ∷ []; validity = valid.Array (true ∷ false ∷ []) })) ≡ node primitive_id (dtypes.Primitive U8 Nullable) 2 [] ((5 ∷ 0 ∷ []) ∷ []) (nodes_of (node bool_id (dtypes.Bool NonNullable) 2 [] ((1 ∷ []) ∷ []) NoMore ∷ []))
unfolding from_bits byte_of_bits
some_null = refl

pub all_null : written (Primitive (record { ptype = U8; slots = pos 0 ∷ []; validity = valid.AllInvalid })) ≡ node primitive_id (dtypes.Primitive U8 Nullable) 1 [] ((0 ∷ []) ∷ []) (nodes_of (node bool_id (dtypes.Bool NonNullable) 1 [] ((0 ∷ []) ∷ []) NoMore ∷ []))
unfolding from_bits byte_of_bits
all_null = refl

pub no_null : written (Primitive (record { ptype = U8; slots = pos 5 ∷ []; validity = valid.AllValid })) ≡ node primitive_id (dtypes.Primitive U8 Nullable) 1 [] ((5 ∷ []) ∷ []) NoMore
no_null = refl

pub null_constant : written (Constant (record { scalar = record { dtype = dtypes.Primitive U8 Nullable; value = None }; len = 7 })) ≡ node constant_id (dtypes.Primitive U8 Nullable) 7 [] [] NoMore
unfolding message_text
null_constant = refl

-- ---- read again
pub packed_again : reading (written one_two_three) ≡ Ok one_two_three
unfolding message_text field_text varint_text groups_text bit_packed_of values_of fields_of fields_up_to field_at payload_at groups_at said has_kinds are_within last_values number_at optional_number_at message_at patches_in
packed_again = refl

pub blocked_again : reading (written blocked) ≡ Ok blocked
unfolding message_text field_text varint_text groups_text bit_packed_blocked_of values_of fields_of fields_up_to field_at payload_at groups_at said has_kinds are_within last_values number_at optional_number_at message_at patches_in
blocked_again = refl

pub patched_again : reading (written one_patch) ≡ Ok one_patch
unfolding message_text field_text varint_text groups_text bit_packed_of values_of fields_of fields_up_to field_at payload_at groups_at said has_kinds are_within last_values number_at optional_number_at message_at patches_in plain_of
patched_again = refl

pub framed_again : reading (written framed) ≡ Ok framed
unfolding message_text field_text varint_text groups_text bit_packed_of scalar_of values_of fields_of fields_up_to field_at payload_at groups_at said has_kinds are_within last_values number_at optional_number_at message_at patches_in
framed_again = refl

pub references_again : reading (written two_references) ≡ Ok two_references
unfolding message_text field_text varint_text groups_text for_chunked_of values_of fields_of fields_up_to field_at payload_at groups_at said has_kinds are_within last_values number_at optional_number_at message_at
references_again = refl

pub deltas_again : reading (written (no_changes 100)) ≡ Ok (no_changes 100)
unfolding message_text field_text varint_text groups_text delta_metadata_of scalar_of values_of fields_of fields_up_to field_at payload_at groups_at said has_kinds are_within last_values number_at optional_number_at message_at
deltas_again = refl

pub sliced_again : reading (written sliced_patch) ≡ Ok sliced_patch
unfolding message_text field_text varint_text groups_text bit_packed_of values_of fields_of fields_up_to field_at payload_at groups_at said has_kinds are_within last_values number_at optional_number_at message_at patches_in plain_of
sliced_again = refl

-- a field of an unknown tag is skipped
pub unknown_is_skipped : reading (node bitpacked_v1_id (dtypes.Primitive U32 NonNullable) 3 (0x3d ∷ 0x00 ∷ 0x00 ∷ 0x00 ∷ 0x00 ∷ 0x08 ∷ 0x02 ∷ []) (three_bytes ∷ []) NoMore) ≡ Ok one_two_three
unfolding bit_packed_of values_of fields_of fields_up_to field_at payload_at groups_at said has_kinds are_within last_values number_at optional_number_at message_at patches_in
unknown_is_skipped = refl

-- the last of a repeated tag counts
pub last_wins : reading (node bitpacked_v1_id (dtypes.Primitive U32 NonNullable) 3 (0x08 ∷ 0x01 ∷ 0x08 ∷ 0x02 ∷ []) (three_bytes ∷ []) NoMore) ≡ Ok one_two_three
unfolding bit_packed_of values_of fields_of fields_up_to field_at payload_at groups_at said has_kinds are_within last_values number_at optional_number_at message_at patches_in
last_wins = refl
