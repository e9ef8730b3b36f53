-- The columns that nodes stand for, one node of each id, by computation.
use Rattle.std.specs.Prelude.{ℕ, ℤ, pos, negsuc, List, [], ◌∷◌, codes, map, replicate, None, Some, refl}
use Rattle.fastlanes.specs.Layout.{from_bits, packed_bit, place, row_of, segment_lane, unpacked_bits, unpacked_item}
use Rattle.fl_types.specs.declared.dtype.DType.{DType}
use Rattle.fl_types.specs.declared.dtype.DType.TheVariants as dtypes
use Rattle.fl_types.specs.declared.dtype.Nullability.TheVariants.{NonNullable, Nullable}
use Rattle.fl_types.specs.declared.dtype.PType.{PType}
use Rattle.fl_types.specs.declared.dtype.PType.TheVariants.{I16, I32, U8, U16, U32, U64}
use Rattle.fl_column.specs.Columns.{Column}
use Rattle.fl_bitpacking.specs.Blocks.{block_item, item_of_blocks}
use Rattle.fl_codec.specs.Deltas.{block_integer, lane_sum}
use Rattle.fl_metadata.specs.WireReading.{field_at, fields_of, fields_up_to, groups_at, payload_at}
use Rattle.fl_metadata.specs.Schemas.{are_within, has_kinds, last_values, message_at, number_at, optional_number_at, said, values_of}
use Rattle.fl_metadata.specs.Messages.{bit_packed_blocked_of, bit_packed_of, delta_metadata_of, for_chunked_of, patches_in, rle_of}
use Rattle.fl_metadata.specs.Scalars.{scalar_of}
use Rattle.fl_serialized.specs.Nodes.{Node, Of, nodes_of}
use Rattle.fl_serde.specs.declared.node_info.NodeInfo.TheVariants as infos
use Rattle.fl_serde.specs.Leaves.{bit_of_bytes}
use Rattle.fl_serde.specs.NodeColumns.{StandsFor}

-- a node of any parts
abbrev node : List ℕ → DType → ℕ → List ℕ → List (List ℕ) → List Node → Node
node id dtype len metadata buffers children = Of (record { id = id; dtype = dtype; len = len; metadata = metadata; buffers = buffers }) (nodes_of children)

-- a column without nulls
abbrev without_nulls : PType → List ℤ → Column
without_nulls ptype items = record { dtype = dtypes.Primitive ptype NonNullable; items = map (λ z. Some z) items }

-- ---- leaves
-- true and false
abbrev validity : Node
validity = node (codes "vortex.bool") (dtypes.Bool NonNullable) 2 [] ((1 ∷ []) ∷ []) []

abbrev one_valid : Column
one_valid = record { dtype = dtypes.Bool NonNullable; items = Some (pos 1) ∷ Some (pos 0) ∷ [] }

pub bools : StandsFor validity one_valid
unfolding bit_of_bytes fields_of fields_up_to
bools = ([], tt, record { info = infos.Bool; said = refl; expected = refl; items = refl })

-- 5 and 6, the second under a null
pub slots : StandsFor (node (codes "vortex.primitive") (dtypes.Primitive U8 Nullable) 2 [] ((5 ∷ 6 ∷ []) ∷ []) (validity ∷ [])) (record { dtype = dtypes.Primitive U8 Nullable; items = Some (pos 5) ∷ None ∷ [] })
unfolding fields_of fields_up_to
slots = (one_valid ∷ [], (bools, tt), record { info = infos.Primitive U8; said = refl; expected = refl; items = refl })

pub numbers : StandsFor (node (codes "vortex.primitive") (dtypes.Primitive U16 NonNullable) 2 [] ((0 ∷ 0 ∷ 0 ∷ 1 ∷ []) ∷ []) []) (without_nulls U16 (pos 0 ∷ pos 256 ∷ []))
unfolding fields_of fields_up_to
numbers = ([], tt, record { info = infos.Primitive U16; said = refl; expected = refl; items = refl })

-- -5, three times
pub constants : StandsFor (node (codes "vortex.constant") (dtypes.Primitive I32 NonNullable) 3 (0x18 ∷ 0x09 ∷ []) [] []) (without_nulls I32 (negsuc 4 ∷ negsuc 4 ∷ negsuc 4 ∷ []))
unfolding scalar_of values_of fields_of fields_up_to field_at payload_at groups_at said has_kinds are_within last_values number_at optional_number_at
constants = ([], tt, record { info = infos.Constant I32 (Some (negsuc 4)); said = refl; expected = refl; items = refl })

-- ---- packed items
-- the bytes of 1, 2, 3 at width 2, as words of 32 bits
abbrev three_bytes : List ℕ
three_bytes = 1 ∷ 0 ∷ 0 ∷ 0 ∷ 2 ∷ 0 ∷ 0 ∷ 0 ∷ 3 ∷ replicate 247 0

abbrev packed_three : Node
packed_three = node (codes "fastlanes.bitpacked") (dtypes.Primitive I32 NonNullable) 3 (0x08 ∷ 0x02 ∷ []) (three_bytes ∷ []) []

pub packed : StandsFor packed_three (without_nulls I32 (pos 1 ∷ pos 2 ∷ pos 3 ∷ []))
unfolding bit_packed_of values_of fields_of fields_up_to field_at payload_at groups_at said has_kinds are_within last_values number_at optional_number_at message_at patches_in item_of_blocks block_item unpacked_item unpacked_bits from_bits packed_bit row_of
packed = ([], tt, record { info = infos.BitPacked I32 (record { bit_width = 2; offset = 0; patches = None }); said = refl; expected = refl; items = refl })

-- from the second item on, the last one patched: indices count from 7 on
abbrev patched_two : Node
patched_two =
    node (codes "fastlanes.bitpacked") (dtypes.Primitive U32 NonNullable) 2 (0x08 ∷ 0x02 ∷ 0x10 ∷ 0x01 ∷ 0x1a ∷ 0x04 ∷ 0x08 ∷ 0x01 ∷ 0x10 ∷ 0x07 ∷ []) (three_bytes ∷ [])
    (node (codes "vortex.primitive") (dtypes.Primitive U8 NonNullable) 1 [] ((8 ∷ []) ∷ []) [] ∷ node (codes "vortex.primitive") (dtypes.Primitive U32 NonNullable) 1 [] ((0 ∷ 1 ∷ 0 ∷ 0 ∷ []) ∷ []) [] ∷ [])

pub patched : StandsFor patched_two (without_nulls U32 (pos 2 ∷ pos 256 ∷ []))
unfolding bit_packed_of values_of fields_of fields_up_to field_at payload_at groups_at said has_kinds are_within last_values number_at optional_number_at message_at patches_in item_of_blocks block_item unpacked_item unpacked_bits from_bits packed_bit row_of
patched = (
  without_nulls U8 (pos 8 ∷ []) ∷ without_nulls U32 (pos 256 ∷ []) ∷ [],
  (([], tt, record { info = infos.Primitive U8; said = refl; expected = refl; items = refl }), (([], tt, record { info = infos.Primitive U32; said = refl; expected = refl; items = refl }), tt)),
  record { info = infos.BitPacked U32 (record { bit_width = 2; offset = 1; patches = Some (record { len = 1; offset = 7; indices = U8; chunk_offsets_len = 0; chunk_offsets = None }) }); said = refl; expected = refl; items = refl },
)

-- between boundaries
pub blocked : StandsFor (node (codes "fastlanes.bitpacked.v2") (dtypes.Primitive U32 NonNullable) 3 (0x10 ∷ 0x01 ∷ []) (three_bytes ∷ []) (node (codes "vortex.primitive") (dtypes.Primitive U16 NonNullable) 2 [] ((0 ∷ 0 ∷ 0 ∷ 1 ∷ []) ∷ []) [] ∷ [])) (without_nulls U32 (pos 1 ∷ pos 2 ∷ pos 3 ∷ []))
unfolding bit_packed_blocked_of values_of fields_of fields_up_to field_at payload_at groups_at said has_kinds are_within last_values number_at optional_number_at message_at patches_in item_of_blocks block_item unpacked_item unpacked_bits from_bits packed_bit row_of
blocked = (without_nulls U16 (pos 0 ∷ pos 256 ∷ []) ∷ [], (numbers, tt), record { info = infos.BitPackedBlocked U32 (record { offset = 0; block_offsets = U16; patches = None }); said = refl; expected = refl; items = refl })

-- ---- items over others
-- 1, 2, 3 plus -5
pub framed : StandsFor (node (codes "fastlanes.for") (dtypes.Primitive I32 NonNullable) 3 (0x18 ∷ 0x09 ∷ []) [] (packed_three ∷ [])) (without_nulls I32 (negsuc 3 ∷ negsuc 2 ∷ negsuc 1 ∷ []))
unfolding scalar_of values_of fields_of fields_up_to field_at payload_at groups_at said has_kinds are_within last_values number_at optional_number_at
framed = (without_nulls I32 (pos 1 ∷ pos 2 ∷ pos 3 ∷ []) ∷ [], (packed, tt), record { info = infos.FoR I32 (Some (negsuc 4)); said = refl; expected = refl; items = refl })

-- two items of the first chunk plus 5, and two of the second plus -7
pub chunked : StandsFor
    (node (codes "fastlanes.for.v2") (dtypes.Primitive I16 Nullable) 4 (0x08 ∷ 0xfe ∷ 0x07 ∷ []) []
    (node (codes "vortex.primitive") (dtypes.Primitive I16 Nullable) 4 [] ((1 ∷ 0 ∷ 2 ∷ 0 ∷ 3 ∷ 0 ∷ 4 ∷ 0 ∷ []) ∷ []) (node (codes "vortex.bool") (dtypes.Bool NonNullable) 4 [] ((13 ∷ []) ∷ []) [] ∷ [])
    ∷ node (codes "vortex.primitive") (dtypes.Primitive I16 NonNullable) 2 [] ((5 ∷ 0 ∷ 249 ∷ 255 ∷ []) ∷ []) [] ∷ []))
    (record { dtype = dtypes.Primitive I16 Nullable; items = Some (pos 6) ∷ None ∷ Some (negsuc 3) ∷ Some (negsuc 2) ∷ [] })
unfolding for_chunked_of values_of fields_of fields_up_to field_at payload_at groups_at said has_kinds are_within last_values number_at optional_number_at bit_of_bytes
chunked =
    let shown : Column = record { dtype = dtypes.Bool NonNullable; items = Some (pos 1) ∷ Some (pos 0) ∷ Some (pos 1) ∷ Some (pos 1) ∷ [] } in (
      record { dtype = dtypes.Primitive I16 Nullable; items = Some (pos 1) ∷ None ∷ Some (pos 3) ∷ Some (pos 4) ∷ [] } ∷ without_nulls I16 (pos 5 ∷ negsuc 6 ∷ []) ∷ [],
      (
        (shown ∷ [], (([], tt, record { info = infos.Bool; said = refl; expected = refl; items = refl }), tt), record { info = infos.Primitive I16; said = refl; expected = refl; items = refl }),
        (([], tt, record { info = infos.Primitive I16; said = refl; expected = refl; items = refl }), tt),
      ),
      record { info = infos.FoRChunked I16 (record { offset = 1022 }); said = refl; expected = refl; items = refl },
    )

-- bases of 9 and deltas of 1, from the row before the last one of the first lane's segment on
pub deltas : StandsFor
    (node (codes "fastlanes.delta") (dtypes.Primitive U64 NonNullable) 4 (0x08 ∷ 0x80 ∷ 0x08 ∷ 0x10 ∷ 0x3e ∷ []) []
    (node (codes "vortex.constant") (dtypes.Primitive U64 NonNullable) 16 (0x20 ∷ 0x09 ∷ []) [] [] ∷ node (codes "vortex.constant") (dtypes.Primitive U64 NonNullable) 1024 (0x20 ∷ 0x01 ∷ []) [] [] ∷ []))
    (without_nulls U64 (pos 72 ∷ pos 73 ∷ pos 10 ∷ pos 11 ∷ []))
unfolding delta_metadata_of scalar_of values_of fields_of fields_up_to field_at payload_at groups_at said has_kinds are_within last_values number_at optional_number_at block_integer lane_sum segment_lane place
deltas = (
  without_nulls U64 (replicate 16 (pos 9)) ∷ without_nulls U64 (replicate 1024 (pos 1)) ∷ [],
  (([], tt, record { info = infos.Constant U64 (Some (pos 9)); said = refl; expected = refl; items = refl }), (([], tt, record { info = infos.Constant U64 (Some (pos 1)); said = refl; expected = refl; items = refl }), tt)),
  record { info = infos.Delta U64 (record { deltas_len = 1024; offset = 62 }); said = refl; expected = refl; items = refl },
)

-- the last item of a chunk and the first one of the next, both of index 1: the run values of the chunks start at 0 and 2
pub runs : StandsFor
    (node (codes "fastlanes.rle") (dtypes.Primitive U8 NonNullable) 2 (0x08 ∷ 0x04 ∷ 0x10 ∷ 0x80 ∷ 0x10 ∷ 0x20 ∷ 0x02 ∷ 0x28 ∷ 0x01 ∷ 0x30 ∷ 0xff ∷ 0x07 ∷ []) []
    (node (codes "vortex.primitive") (dtypes.Primitive U8 NonNullable) 4 [] ((7 ∷ 8 ∷ 9 ∷ 6 ∷ []) ∷ []) []
    ∷ node (codes "vortex.constant") (dtypes.Primitive U8 NonNullable) 2048 (0x20 ∷ 0x01 ∷ []) [] []
    ∷ node (codes "vortex.primitive") (dtypes.Primitive U16 NonNullable) 2 [] ((3 ∷ 0 ∷ 5 ∷ 0 ∷ []) ∷ []) [] ∷ []))
    (without_nulls U8 (pos 8 ∷ pos 6 ∷ []))
unfolding rle_of scalar_of values_of fields_of fields_up_to field_at payload_at groups_at said has_kinds are_within last_values number_at optional_number_at
runs = (
  without_nulls U8 (pos 7 ∷ pos 8 ∷ pos 9 ∷ pos 6 ∷ []) ∷ without_nulls U8 (replicate 2048 (pos 1)) ∷ without_nulls U16 (pos 3 ∷ pos 5 ∷ []) ∷ [],
  (
    ([], tt, record { info = infos.Primitive U8; said = refl; expected = refl; items = refl }),
    (([], tt, record { info = infos.Constant U8 (Some (pos 1)); said = refl; expected = refl; items = refl }), (([], tt, record { info = infos.Primitive U16; said = refl; expected = refl; items = refl }), tt)),
  ),
  record { info = infos.RLE U8 (record { values_len = 4; indices_len = 2048; indices = U8; values_idx_offsets_len = 2; values_idx_offsets = U16; offset = 1023 }); said = refl; expected = refl; items = refl },
)
