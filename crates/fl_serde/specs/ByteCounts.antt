-- How many bytes arrays take when they are written: those of their buffers.
use Rattle.std.specs.Prelude.{◌+◌, ℕ, length, Option, option_map, unwrap_or, sum_by}
use Rattle.fl_types.specs.declared.validity.Validity.{Validity}
use Rattle.fl_types.specs.declared.validity.Validity.TheVariants as valid
use Rattle.fl_column.specs.Columns.{BoolParts, PrimitiveParts}
use Rattle.fl_patches.specs.PatchMaps.{PatchesParts}
use Rattle.fl_bitpacking.specs.Columns.{BitPackedParts}
use Rattle.fl_array.specs.Trees.{BitPackedBlocked, BitPackedGlobal, Constant, Delta, FoRChunked, FoRGlobal, Primitive, RLE, Tree}
use Rattle.fl_array.specs.Trees as tree
use Rattle.fl_serialized.specs.Nodes.{And, NoMore, Node, Nodes, Of}
use Rattle.fl_serde.specs.Leaves.{bits_size, slots_size}

-- ---- nodes
abbrev mutual
  -- the bytes of a node's buffers, and of those of the nodes in it
  pub buffer_bytes : Node → ℕ
  buffer_bytes (Of head children) = sum_by length head.buffers + buffer_bytes_in children

  -- the same of nodes one after the other
  pub buffer_bytes_in : Nodes → ℕ
  buffer_bytes_in NoMore = 0
  buffer_bytes_in (And node nodes) = buffer_bytes node + buffer_bytes_in nodes

-- ---- parts
-- the bytes of a validity of this many items: a bit for each where nulls may stand by its form
abbrev pub validity_bytes : ℕ → Validity → ℕ
validity_bytes len valid.NonNullable = 0
validity_bytes len valid.AllValid = 0
validity_bytes len valid.AllInvalid = bits_size len
validity_bytes len (valid.Array bits) = bits_size (length bits)

-- the bytes of stored integers
abbrev pub slots_bytes : PrimitiveParts → ℕ
slots_bytes p = slots_size p.ptype (length p.slots)

-- the bytes of a plain array
abbrev pub primitive_bytes : PrimitiveParts → ℕ
primitive_bytes p = slots_bytes p + validity_bytes (length p.slots) p.validity

-- the bytes of chunk offsets, if there are any
abbrev pub offsets_bytes : Option PrimitiveParts → ℕ
offsets_bytes offsets = unwrap_or (option_map slots_bytes offsets) 0

-- the bytes of patches: those of their indices, of their values and of their chunk offsets
abbrev pub bytes_of_patches : PatchesParts → ℕ
bytes_of_patches p = slots_bytes p.indices + slots_bytes p.values + offsets_bytes p.chunk_offsets

-- the same where there may be no patches
abbrev pub patches_bytes : Option PatchesParts → ℕ
patches_bytes patches = unwrap_or (option_map bytes_of_patches patches) 0

-- the bytes of packed parts
abbrev pub packed_bytes : BitPackedParts → ℕ
packed_bytes parts = length parts.packed + patches_bytes parts.patches + validity_bytes parts.len parts.validity

-- the bytes of booleans
abbrev pub bool_bytes : BoolParts → ℕ
bool_bytes b = bits_size (length b.bits) + validity_bytes (length b.bits) b.validity

-- ---- arrays
-- the bytes of an array: its own, and those of the arrays in it
abbrev pub tree_bytes : Tree → ℕ
tree_bytes (Primitive p) = primitive_bytes p
tree_bytes (Constant c) = 0
tree_bytes (tree.Bool b) = bool_bytes b
tree_bytes (BitPackedGlobal parts width) = packed_bytes parts
tree_bytes (BitPackedBlocked parts boundaries) = packed_bytes parts + tree_bytes boundaries
tree_bytes (FoRGlobal encoded reference) = tree_bytes encoded
tree_bytes (FoRChunked encoded references offset) = tree_bytes encoded + tree_bytes references
tree_bytes (Delta bases deltas parts) = tree_bytes bases + tree_bytes deltas + validity_bytes parts.len parts.validity
tree_bytes (RLE values indices offsets window) = tree_bytes values + tree_bytes indices + tree_bytes offsets
