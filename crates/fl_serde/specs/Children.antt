-- What is asked of the children of a node.
use Rattle.std.specs.Prelude.{◌+◌, ◌*◌, ◌/◌, ◌==◌, ◌&&◌, ℕ, Bool, true, false, List, [], ◌∷◌, ◌++◌, length, Option, Some, None, if◌then◌else◌}
use Rattle.std.specs.Bool.{beq}
use Rattle.fl_types.specs.declared.dtype.DType.{DType}
use Rattle.fl_types.specs.declared.dtype.DType.TheVariants as dtypes
use Rattle.fl_types.specs.declared.dtype.Nullability.TheVariants.{NonNullable}
use Rattle.fl_types.specs.declared.dtype.PType.{PType}
use Rattle.fl_types.specs.Integers.{lanes_of_type}
use Rattle.fl_types.specs.Types.{is_nullable, nullability_in, same_type}
use Rattle.fl_column.specs.Chunks.{chunk_count}
use Rattle.fl_metadata.specs.declared.patches.PatchesMetadata.{PatchesMetadata}
use Rattle.fl_serialized.specs.Nodes.{Head}
use Rattle.fl_serde.specs.declared.node_info.NodeInfo.{NodeInfo}
use Rattle.fl_serde.specs.declared.node_info.NodeInfo.TheVariants as infos
use Rattle.fl_serde.specs.declared.children.ExpectedChild.{ExpectedChild}

-- two types are one
abbrev pub same_dtype : DType → DType → Bool
same_dtype a b = same_type a b && beq (is_nullable a) (is_nullable b)

-- so many integers of a type without nulls
abbrev pub numbers : PType → ℕ → ExpectedChild
numbers ptype len = record { dtype = dtypes.Primitive ptype NonNullable; len = len }

-- the validity of so many items
abbrev pub validity_child : ℕ → ExpectedChild
validity_child len = record { dtype = dtypes.Bool NonNullable; len = len }

-- the encoded items of a node: as many, of its type
abbrev pub encoded_child : Head → ExpectedChild
encoded_child head = record { dtype = head.dtype; len = head.len }

-- chunk offsets, where patches have them
abbrev pub chunk_offset_children : Option PType → ℕ → List ExpectedChild
chunk_offset_children None len = []
chunk_offset_children (Some ptype) len = numbers ptype len ∷ []

-- the patches of an array of a type, where its message names some: indices, values and chunk offsets
abbrev pub patch_children : DType → Option PatchesMetadata → List ExpectedChild
patch_children dtype None = []
patch_children dtype (Some m) = numbers m.indices m.len ∷ record { dtype = dtype; len = m.len } ∷ chunk_offset_children m.chunk_offsets m.chunk_offsets_len

-- the children in front of a node's validity
abbrev pub front_children : Head → NodeInfo → List ExpectedChild
front_children head (infos.Primitive ptype) = []
front_children head (infos.Constant ptype value) = []
front_children head infos.Bool = []
front_children head (infos.BitPacked ptype m) = patch_children head.dtype m.patches
front_children head (infos.BitPackedBlocked ptype m) = patch_children head.dtype m.patches
front_children head (infos.FoR ptype value) = encoded_child head ∷ []
front_children head (infos.FoRChunked ptype m) = encoded_child head ∷ numbers ptype (chunk_count (m.offset + head.len)) ∷ []
front_children head (infos.Delta ptype m) = numbers ptype (lanes_of_type ptype * (m.deltas_len / 1024)) ∷ numbers ptype m.deltas_len ∷ []
front_children head (infos.RLE ptype m) =
    numbers ptype m.values_len ∷ record { dtype = dtypes.Primitive m.indices (nullability_in head.dtype); len = m.indices_len } ∷ numbers m.values_idx_offsets m.values_idx_offsets_len ∷ []

-- the children behind it: the boundaries of blocks
abbrev pub back_children : Head → NodeInfo → List ExpectedChild
back_children head (infos.BitPackedBlocked ptype m) = numbers m.block_offsets (chunk_count (m.offset + head.len) + 1) ∷ []
back_children head (infos.Primitive ptype) = []
back_children head (infos.Constant ptype value) = []
back_children head infos.Bool = []
back_children head (infos.BitPacked ptype m) = []
back_children head (infos.FoR ptype value) = []
back_children head (infos.FoRChunked ptype m) = []
back_children head (infos.Delta ptype m) = []
back_children head (infos.RLE ptype m) = []

-- a node of the kind may have a validity among its children
abbrev pub takes_validity : NodeInfo → Bool
takes_validity (infos.Primitive ptype) = true
takes_validity (infos.Constant ptype value) = false
takes_validity infos.Bool = true
takes_validity (infos.BitPacked ptype m) = true
takes_validity (infos.BitPackedBlocked ptype m) = true
takes_validity (infos.FoR ptype value) = false
takes_validity (infos.FoRChunked ptype m) = false
takes_validity (infos.Delta ptype m) = true
takes_validity (infos.RLE ptype m) = false

-- how many children a node has beside its validity
abbrev pub child_count : Head → NodeInfo → ℕ
child_count head m = length (front_children head m) + length (back_children head m)

-- one of this many children is the validity
abbrev pub has_validity : Head → NodeInfo → ℕ → Bool
has_validity head m count = count == child_count head m + 1

-- the validity, where it is one of this many children
abbrev pub validity_children : Head → NodeInfo → ℕ → List ExpectedChild
validity_children head m count = if has_validity head m count then validity_child head.len ∷ [] else []

-- all of this many children of a node, in order
abbrev pub expected_children : Head → NodeInfo → ℕ → List ExpectedChild
expected_children head m count = front_children head m ++ (validity_children head m count ++ back_children head m)
