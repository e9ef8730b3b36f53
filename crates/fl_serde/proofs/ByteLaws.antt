-- The bytes of what an array is written as.
use Rattle.std.proofs.Common.{◌≡◌, ℕ, ◌+◌, false, Bool, List, [], ◌∷◌, ◌++◌, length, replicate, Option, Some, None, refl, ap, arith}
use Rattle.std.proofs.lemmas.List.{length-replicate}
use Rattle.fl_types.specs.declared.dtype.DType.{DType}
use Rattle.fl_types.specs.declared.dtype.DType.TheVariants as dtypes
use Rattle.fl_types.specs.Validities.{nullability_of}
use Rattle.fl_types.specs.declared.validity.Validity.{Validity}
use Rattle.fl_types.specs.declared.validity.Validity.TheVariants as valid
use Rattle.fl_column.specs.Columns.{PrimitiveParts}
use Rattle.fl_patches.specs.PatchMaps.{PatchesParts}
use Rattle.fl_bitpacking.specs.Columns.{BitPackedParts}
use Rattle.fl_array.specs.Trees.{BitPackedBlocked, BitPackedGlobal, Constant, Delta, FoRChunked, FoRGlobal, Primitive, RLE, Tree}
use Rattle.fl_array.specs.Trees as tree
use Rattle.fl_serialized.specs.Nodes.{Node, nodes_of}
use Rattle.fl_serde.specs.ByteCounts.{buffer_bytes, buffer_bytes_in, offsets_bytes, packed_bytes, patches_bytes, slots_bytes, tree_bytes, validity_bytes}
use Rattle.fl_serde.specs.Leaves.{bits_size}
use Rattle.fl_serde.specs.Writing.{bits_node, chunk_offset_nodes, packed_nodes, patch_nodes, slots_node, validity_nodes, written}
use Rattle.fl_serde.proofs.LeavesAgain.{bits_sized, slots_sized}

-- ---- leaves
all_in : (first others : List Node) → buffer_bytes_in (nodes_of (first ++ others)) ≡ buffer_bytes_in (nodes_of first) + buffer_bytes_in (nodes_of others)
all_in [] others = omega arith
all_in (node ∷ first) others = let rest = all_in first others in omega arith

slots_counted : (dtype : DType) (p : PrimitiveParts) → buffer_bytes (slots_node dtype p) ≡ slots_bytes p
slots_counted dtype p = let sized = slots_sized p.ptype p.slots in omega arith

bits_counted : (bits : List Bool) → buffer_bytes (bits_node bits) ≡ bits_size (length bits)
bits_counted bits = let sized = bits_sized bits in omega arith

-- ---- parts
validity_counted : (len : ℕ) (v : Validity) → buffer_bytes_in (nodes_of (validity_nodes len v)) ≡ validity_bytes len v
validity_counted len valid.NonNullable = refl
validity_counted len valid.AllValid = refl
validity_counted len valid.AllInvalid =
    let bits : List Bool = replicate len false in
    let counted = bits_counted bits in
    let long : bits_size (length bits) ≡ bits_size len = ap bits_size (length-replicate len false) in
    omega arith
validity_counted len (valid.Array bits) = let counted = bits_counted bits in omega arith

offsets_counted : (offsets : Option PrimitiveParts) → buffer_bytes_in (nodes_of (chunk_offset_nodes offsets)) ≡ offsets_bytes offsets
offsets_counted None = refl
offsets_counted (Some p) = let sized = slots_sized p.ptype p.slots in omega arith

patches_counted : (dtype : DType) (patches : Option PatchesParts) → buffer_bytes_in (nodes_of (patch_nodes dtype patches)) ≡ patches_bytes patches
patches_counted dtype None = refl
patches_counted dtype (Some p) =
    let indices = slots_sized p.indices.ptype p.indices.slots in
    let values = slots_counted dtype p.values in
    let offsets = offsets_counted p.chunk_offsets in
    omega arith

packed_counted : (parts : BitPackedParts) → length parts.packed + buffer_bytes_in (nodes_of (packed_nodes parts)) ≡ packed_bytes parts
packed_counted parts =
    let dtype : DType = dtypes.Primitive parts.ptype (nullability_of parts.validity) in
    let children = all_in (patch_nodes dtype parts.patches) (validity_nodes parts.len parts.validity) in
    let patches = patches_counted dtype parts.patches in
    let validity = validity_counted parts.len parts.validity in
    omega arith

-- ---- arrays
pub bytes_of_written : (t : Tree) → buffer_bytes (written t) ≡ tree_bytes t
bytes_of_written (Primitive p) = let sized = slots_sized p.ptype p.slots in let validity = validity_counted (length p.slots) p.validity in omega arith
bytes_of_written (Constant c) = refl
bytes_of_written (tree.Bool b) = let sized = bits_sized b.bits in let validity = validity_counted (length b.bits) b.validity in omega arith
bytes_of_written (BitPackedGlobal parts width) = let packed = packed_counted parts in omega arith
bytes_of_written (BitPackedBlocked parts boundaries) =
    let packed = packed_counted parts in
    let blocks = bytes_of_written boundaries in
    let children = all_in (packed_nodes parts) (written boundaries ∷ []) in
    omega arith
bytes_of_written (FoRGlobal encoded reference) = let child = bytes_of_written encoded in omega arith
bytes_of_written (FoRChunked encoded references offset) =
    let child = bytes_of_written encoded in
    let others = bytes_of_written references in
    omega arith
bytes_of_written (Delta bases deltas parts) =
    let first = bytes_of_written bases in
    let other = bytes_of_written deltas in
    let validity = validity_counted parts.len parts.validity in
    omega arith
bytes_of_written (RLE values indices offsets window) =
    let first = bytes_of_written values in
    let other = bytes_of_written indices in
    let last = bytes_of_written offsets in
    omega arith
