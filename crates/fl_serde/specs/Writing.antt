-- The node that an array is written as.
use Rattle.std.specs.Prelude.{ℕ, Bool, false, List, [], ◌∷◌, ◌++◌, length, Option, Some, None, option_map, unwrap_or, replicate}
use Rattle.fl_types.specs.declared.dtype.DType.{DType}
use Rattle.fl_types.specs.declared.dtype.DType.TheVariants as dtypes
use Rattle.fl_types.specs.declared.dtype.Nullability.TheVariants.{NonNullable}
use Rattle.fl_types.specs.declared.dtype.PType.TheVariants.{U8}
use Rattle.fl_types.specs.Types.{integer_type}
use Rattle.fl_types.specs.Validities.{nullability_of}
use Rattle.fl_types.specs.Values.{ScalarParts}
use Rattle.fl_types.specs.declared.validity.Validity.{Validity}
use Rattle.fl_types.specs.declared.validity.Validity.TheVariants as valid
use Rattle.fl_column.specs.Columns.{PrimitiveParts, ptype_of_column}
use Rattle.fl_patches.specs.PatchMaps.{PatchesParts}
use Rattle.fl_bitpacking.specs.Columns.{BitPackedParts}
use Rattle.fl_metadata.specs.WrittenText.{message_text}
use Rattle.fl_metadata.specs.Messages.{bit_packed_blocked_slots, bit_packed_slots, delta_slots, for_chunked_slots, rle_slots}
use Rattle.fl_metadata.specs.Scalars.{scalar_slots}
use Rattle.fl_metadata.specs.declared.patches.PatchesMetadata.{PatchesMetadata}
use Rattle.fl_array.specs.Trees.{BitPackedBlocked, BitPackedGlobal, Constant, Delta, FoRChunked, FoRGlobal, Primitive, RLE, Tree, column}
use Rattle.fl_array.specs.Trees as tree
use Rattle.fl_serialized.specs.Nodes.{Head, Node, Of, nodes_of}
use Rattle.fl_serialized.specs.Nodes as ids
use Rattle.fl_serde.specs.declared.kinds.NodeKind.{NodeKind}
use Rattle.fl_serde.specs.declared.kinds.NodeKind.TheVariants as kinds
use Rattle.fl_serde.specs.Kinds.{id_of_kind}
use Rattle.fl_serde.specs.Leaves.{bytes_of_bits, bytes_of_slots}

-- ---- kinds
-- the kind of the node of an array
abbrev pub node_kind : Tree → NodeKind
node_kind (Primitive p) = kinds.Primitive
node_kind (Constant c) = kinds.Constant
node_kind (tree.Bool b) = kinds.Bool
node_kind (BitPackedGlobal parts width) = kinds.BitPacked
node_kind (BitPackedBlocked parts boundaries) = kinds.BitPackedBlocked
node_kind (FoRGlobal encoded reference) = kinds.FoR
node_kind (FoRChunked encoded references offset) = kinds.FoRChunked
node_kind (Delta bases deltas parts) = kinds.Delta
node_kind (RLE values indices offsets window) = kinds.RLE

-- the id of an array
abbrev pub id_of : Tree → List ℕ
id_of t = id_of_kind (node_kind t)

-- how many items an array has
abbrev pub item_count : Tree → ℕ
item_count t = length (column t).items

-- ---- nodes without a child
-- a node of one buffer, without metadata and children
abbrev pub leaf : List ℕ → DType → ℕ → List ℕ → Node
leaf id dtype len bytes = Of (record { id = id; dtype = dtype; len = len; metadata = []; buffers = bytes ∷ [] }) (nodes_of [])

-- stored integers under a type, whatever may be null among them
abbrev pub slots_node : DType → PrimitiveParts → Node
slots_node dtype p = leaf ids.primitive_id dtype (length p.slots) (bytes_of_slots p.ptype p.slots)

-- the same under their own type, without nulls
abbrev pub numbers_node : PrimitiveParts → Node
numbers_node p = slots_node (dtypes.Primitive p.ptype NonNullable) p

-- booleans
abbrev pub bits_node : List Bool → Node
bits_node bits = leaf ids.bool_id (dtypes.Bool NonNullable) (length bits) (bytes_of_bits bits)

-- the node of a validity that has nulls by its form
abbrev pub validity_nodes : ℕ → Validity → List Node
validity_nodes len valid.NonNullable = []
validity_nodes len valid.AllValid = []
validity_nodes len valid.AllInvalid = bits_node (replicate len false) ∷ []
validity_nodes len (valid.Array bits) = bits_node bits ∷ []

-- ---- patches
-- the message of patches
abbrev pub patches_message : PatchesParts → PatchesMetadata
patches_message p = record {
  len = length p.indices.slots;
  offset = p.offset;
  indices = p.indices.ptype;
  chunk_offsets_len = unwrap_or (option_map (λ c. length c.slots) p.chunk_offsets) 0;
  chunk_offsets = option_map (λ c. c.ptype) p.chunk_offsets;
}

-- the node of chunk offsets, if there are any
abbrev pub chunk_offset_nodes : Option PrimitiveParts → List Node
chunk_offset_nodes None = []
chunk_offset_nodes (Some offsets) = numbers_node offsets ∷ []

-- the nodes of patches of an array of this type: indices, values and chunk offsets
abbrev pub patch_nodes : DType → Option PatchesParts → List Node
patch_nodes dtype None = []
patch_nodes dtype (Some p) = numbers_node p.indices ∷ slots_node dtype p.values ∷ chunk_offset_nodes p.chunk_offsets

-- ---- arrays
-- the bytes of a scalar, under the tag of its type's sign; none of a null
abbrev pub scalar_bytes : ScalarParts → List ℕ
scalar_bytes scalar = message_text (scalar_slots (unwrap_or (integer_type scalar.dtype) U8) scalar.value)

-- the metadata of an array
abbrev pub metadata_of : Tree → List ℕ
metadata_of (Primitive p) = []
metadata_of (Constant c) = scalar_bytes c.scalar
metadata_of (tree.Bool b) = []
metadata_of (BitPackedGlobal parts width) = message_text (bit_packed_slots (record { bit_width = width; offset = parts.offset; patches = option_map patches_message parts.patches }))
metadata_of (BitPackedBlocked parts boundaries) = message_text (bit_packed_blocked_slots (record { offset = parts.offset; block_offsets = ptype_of_column (column boundaries); patches = option_map patches_message parts.patches }))
metadata_of (FoRGlobal encoded reference) = scalar_bytes reference
metadata_of (FoRChunked encoded references offset) = message_text (for_chunked_slots (record { offset = offset }))
metadata_of (Delta bases deltas parts) = message_text (delta_slots (record { deltas_len = item_count deltas; offset = parts.offset }))
metadata_of (RLE values indices offsets window) = message_text (rle_slots (record {
  values_len = item_count values;
  indices_len = item_count indices;
  indices = ptype_of_column (column indices);
  values_idx_offsets_len = item_count offsets;
  values_idx_offsets = ptype_of_column (column offsets);
  offset = window.offset;
}))

-- the buffers of an array
abbrev pub buffers_of : Tree → List (List ℕ)
buffers_of (Primitive p) = bytes_of_slots p.ptype p.slots ∷ []
buffers_of (Constant c) = []
buffers_of (tree.Bool b) = bytes_of_bits b.bits ∷ []
buffers_of (BitPackedGlobal parts width) = parts.packed ∷ []
buffers_of (BitPackedBlocked parts boundaries) = parts.packed ∷ []
buffers_of (FoRGlobal encoded reference) = []
buffers_of (FoRChunked encoded references offset) = []
buffers_of (Delta bases deltas parts) = []
buffers_of (RLE values indices offsets window) = []

-- what the node of an array says of itself
abbrev pub head_written : Tree → Head
head_written t = record { id = id_of t; dtype = (column t).dtype; len = item_count t; metadata = metadata_of t; buffers = buffers_of t }

-- the node of an array over these children
abbrev pub node_over : Tree → List Node → Node
node_over t children = Of (head_written t) (nodes_of children)

-- the nodes in front of the boundaries of packed parts: their patches, and their validity
abbrev pub packed_nodes : BitPackedParts → List Node
packed_nodes parts = patch_nodes (dtypes.Primitive parts.ptype (nullability_of parts.validity)) parts.patches ++ validity_nodes parts.len parts.validity

-- the node of an array
abbrev pub written : Tree → Node
written (Primitive p) = node_over (Primitive p) (validity_nodes (length p.slots) p.validity)
written (Constant c) = node_over (Constant c) []
written (tree.Bool b) = node_over (tree.Bool b) (validity_nodes (length b.bits) b.validity)
written (BitPackedGlobal parts width) = node_over (BitPackedGlobal parts width) (packed_nodes parts)
written (BitPackedBlocked parts boundaries) = node_over (BitPackedBlocked parts boundaries) (packed_nodes parts ++ written boundaries ∷ [])
written (FoRGlobal encoded reference) = node_over (FoRGlobal encoded reference) (written encoded ∷ [])
written (FoRChunked encoded references offset) = node_over (FoRChunked encoded references offset) (written encoded ∷ written references ∷ [])
written (Delta bases deltas parts) = node_over (Delta bases deltas parts) (written bases ∷ written deltas ∷ validity_nodes parts.len parts.validity)
written (RLE values indices offsets window) = node_over (RLE values indices offsets window) (written values ∷ written indices ∷ written offsets ∷ [])
