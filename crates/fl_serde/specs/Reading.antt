-- The array that a node is read as, or the first refusal.
use Rattle.std.specs.List.{remove}
use Rattle.std.specs.Prelude.{◌-◌, ◌==◌, ◌&&◌, ℕ, ℤ, List, [], ◌∷◌, length, slice_get, Option, Some, None, option_map, unwrap_or, Result, Ok, Err, if◌then◌else◌}
use Rattle.fl_types.specs.declared.dtype.DType.{DType}
use Rattle.fl_types.specs.declared.dtype.DType.TheVariants as dtypes
use Rattle.fl_types.specs.declared.dtype.Nullability.{Nullability}
use Rattle.fl_types.specs.declared.dtype.Nullability.TheVariants.{NonNullable, Nullable}
use Rattle.fl_types.specs.declared.dtype.PType.{PType}
use Rattle.fl_types.specs.declared.error.FastLanesError.{FastLanesError}
use Rattle.fl_types.specs.declared.error.FastLanesError.TheVariants.{ChildCount, ChildMismatch}
use Rattle.fl_types.specs.declared.validity.Validity.{Validity}
use Rattle.fl_types.specs.declared.validity.Validity.TheVariants as valid
use Rattle.fl_types.specs.Types.{nullability_in}
use Rattle.fl_types.specs.Validities.{full_validity}
use Rattle.fl_types.specs.Values.{ScalarParts}
use Rattle.fl_column.specs.Columns.{PrimitiveParts, new_bools, new_constant, new_primitive}
use Rattle.fl_patches.specs.PatchMaps.{PatchesParts, new_patches}
use Rattle.fl_bitpacking.specs.Columns.{BitPackedParts}
use Rattle.fl_metadata.specs.Schemas.{◌>>=◌}
use Rattle.fl_metadata.specs.declared.bit_packed.BitPackedBlockedMetadata.{BitPackedBlockedMetadata}
use Rattle.fl_metadata.specs.declared.patches.PatchesMetadata.{PatchesMetadata}
use Rattle.fl_array.specs.Trees.{Tree}
use Rattle.fl_array.specs.Trees as tree
use Rattle.fl_array.specs.BitPackedArrays.{BitWidthsParts, BlockBoundaries, GlobalWidth, new_bitpacked, tree_of_bitpacked}
use Rattle.fl_array.specs.DeltaArrays.{new_delta, tree_of_delta}
use Rattle.fl_array.specs.FoRArrays.{new_for, new_for_chunked, tree_of_for}
use Rattle.fl_array.specs.Reads.{bools_in}
use Rattle.fl_array.specs.RLEArrays.{new_rle, tree_of_rle}
use Rattle.fl_serialized.specs.Nodes.{And, Head, NoMore, Node, Nodes, Of, head_of}
use Rattle.fl_serde.specs.declared.node_info.NodeInfo.{NodeInfo}
use Rattle.fl_serde.specs.declared.node_info.NodeInfo.TheVariants as infos
use Rattle.fl_serde.specs.declared.children.ExpectedChild.{ExpectedChild}
use Rattle.fl_serde.specs.Checks.{checked, own_bytes}
use Rattle.fl_serde.specs.Leaves.{bits_of_bytes, slots_of_bytes}
use Rattle.fl_serde.specs.Plain.{decoded}
use Rattle.fl_serde.specs.Children.{expected_children, front_children, has_validity, same_dtype}

-- ---- children, one after the other
-- a child as it is found: the type and the length that its node says, and the array that it is read as
pub record Child : Type 0 where
  pub dtype : DType
  pub len : ℕ
  pub tree : Result Tree FastLanesError

-- the array of a child that is as expected
abbrev pub fitting : ExpectedChild → Child → Result Tree FastLanesError
fitting asked child = if same_dtype asked.dtype child.dtype && (asked.len == child.len) then child.tree else Err ChildMismatch

-- the arrays of the first children, which are as expected
abbrev pub read_children : List ExpectedChild → List Child → Result (List Tree) FastLanesError
read_children [] children = Ok []
read_children (asked ∷ expected) [] = Err ChildCount
read_children (asked ∷ expected) (child ∷ children) = fitting asked child >>= λ tree. read_children expected children >>= λ trees. Ok (tree ∷ trees)

-- the validity that a boolean array says
abbrev pub validity_of : Tree → Validity
validity_of t = valid.Array (unwrap_or (option_map (λ b. b.bits) (bools_in t)) [])

-- the validity that the array at a place says; no bits where there is none
abbrev pub validity_at : ℕ → List Tree → Validity
validity_at i trees = unwrap_or (option_map validity_of (slice_get trees i)) (valid.Array [])

-- the validity of a node over the arrays of its children: there is no null where none of them is the validity
abbrev pub validity_over : Head → NodeInfo → List Tree → Validity
validity_over head m trees =
    if has_validity head m (length trees) then validity_at (length (front_children head m)) trees
    else full_validity (nullability_in head.dtype)

-- the arrays of a node's children but for its validity
abbrev pub beside_validity : Head → NodeInfo → List Tree → List Tree
beside_validity head m trees = if has_validity head m (length trees) then remove trees (length (front_children head m)) else trees

-- ---- what is made of them
-- the array of chunk offsets, which is the first one, where patches have them
abbrev pub chunk_offsets_in : Option PType → List Tree → Result (Option Tree) FastLanesError
chunk_offsets_in None trees = Ok None
chunk_offsets_in (Some ptype) [] = Err ChildCount
chunk_offsets_in (Some ptype) (tree ∷ others) = Ok (Some tree)

-- chunk offsets, held plain
abbrev pub decoded_offsets : Option Tree → Result (Option PrimitiveParts) FastLanesError
decoded_offsets None = Ok None
decoded_offsets (Some tree) = decoded tree >>= λ offsets. Ok (Some offsets)

-- the patches of these arrays, held plain
abbrev pub plain_patches : ℕ → ℕ → Tree → Tree → Option Tree → Result PatchesParts FastLanesError
plain_patches len offset indices values offsets = do
  plain_indices ← decoded indices
  plain_values ← decoded values
  plain_offsets ← decoded_offsets offsets
  new_patches len offset plain_indices plain_values plain_offsets

-- the patches of a message over the arrays of its children
abbrev pub patches_over : ℕ → PatchesMetadata → List Tree → Result PatchesParts FastLanesError
patches_over len m [] = Err ChildCount
patches_over len m (indices ∷ []) = Err ChildCount
patches_over len m (indices ∷ values ∷ others) = chunk_offsets_in m.chunk_offsets others >>= λ offsets. plain_patches len m.offset indices values offsets

-- the same where there may be no message of patches
abbrev pub patches_found : ℕ → Option PatchesMetadata → List Tree → Result (Option PatchesParts) FastLanesError
patches_found len None trees = Ok None
patches_found len (Some m) trees = patches_over len m trees >>= λ patches. Ok (Some patches)

-- the bit-packed array of these parts
abbrev pub bitpacked_over : BitPackedParts → BitWidthsParts → Result Tree FastLanesError
bitpacked_over parts widths = new_bitpacked parts widths >>= λ a. Ok (tree_of_bitpacked a)

-- the bit-packed array between boundaries
abbrev pub blocked_over : BitPackedParts → Option Tree → Result Tree FastLanesError
blocked_over parts None = Err ChildCount
blocked_over parts (Some boundaries) = bitpacked_over parts (BlockBoundaries boundaries)

-- a scalar of a type; the type of a null is nullable
abbrev pub scalar_over : PType → Nullability → Option ℤ → ScalarParts
scalar_over ptype nullability None = record { dtype = dtypes.Primitive ptype Nullable; value = None }
scalar_over ptype nullability (Some z) = record { dtype = dtypes.Primitive ptype nullability; value = Some z }

-- the FoR array of one reference over its encoded items
abbrev pub for_over : ScalarParts → List Tree → Result Tree FastLanesError
for_over reference [] = Err ChildCount
for_over reference (encoded ∷ others) = new_for encoded reference >>= λ a. Ok (tree_of_for a)

-- the FoR array over its encoded items and its references
abbrev pub for_chunked_over : ℕ → List Tree → Result Tree FastLanesError
for_chunked_over offset [] = Err ChildCount
for_chunked_over offset (encoded ∷ []) = Err ChildCount
for_chunked_over offset (encoded ∷ references ∷ others) = new_for_chunked encoded references offset >>= λ a. Ok (tree_of_for a)

-- the delta array over its bases and deltas
abbrev pub delta_over : tree.DeltaParts → List Tree → Result Tree FastLanesError
delta_over parts [] = Err ChildCount
delta_over parts (bases ∷ []) = Err ChildCount
delta_over parts (bases ∷ deltas ∷ others) = new_delta bases deltas parts >>= λ a. Ok (tree_of_delta a)

-- the run-length encoded array over its run values, run indices and run offsets
abbrev pub rle_over : tree.OffsetLen → List Tree → Result Tree FastLanesError
rle_over window [] = Err ChildCount
rle_over window (values ∷ []) = Err ChildCount
rle_over window (values ∷ indices ∷ []) = Err ChildCount
rle_over window (values ∷ indices ∷ offsets ∷ others) = new_rle values indices offsets window >>= λ a. Ok (tree_of_rle a)

-- the packed parts of a node, beside its patches
abbrev pub parts_over : Head → PType → Validity → Option PatchesParts → ℕ → BitPackedParts
parts_over head ptype validity patches offset = record { packed = own_bytes head; ptype = ptype; validity = validity; patches = patches; offset = offset; len = head.len }

-- the array of packed blocks between boundaries over the arrays of its patches
abbrev pub patched_blocks : Head → PType → BitPackedBlockedMetadata → Validity → List Tree → Option Tree → Result Tree FastLanesError
patched_blocks head ptype m validity trees boundaries = patches_found head.len m.patches trees >>= λ patches. blocked_over (parts_over head ptype validity patches m.offset) boundaries

-- the array of a node over those of its children: patches first, then what the kind's constructor makes
abbrev pub made : Head → NodeInfo → List Tree → Result Tree FastLanesError
made head (infos.Primitive ptype) trees = new_primitive ptype (slots_of_bytes ptype (own_bytes head) head.len) (validity_over head (infos.Primitive ptype) trees) >>= λ p. Ok (tree.Primitive p)
made head (infos.Constant ptype value) trees = new_constant (scalar_over ptype (nullability_in head.dtype) value) head.len >>= λ c. Ok (tree.Constant c)
made head infos.Bool trees = new_bools (bits_of_bytes (own_bytes head) head.len) (validity_over head infos.Bool trees) >>= λ b. Ok (tree.Bool b)
made head (infos.BitPacked ptype m) trees =
    patches_found head.len m.patches trees >>= λ patches. bitpacked_over (parts_over head ptype (validity_over head (infos.BitPacked ptype m) trees) patches m.offset) (GlobalWidth m.bit_width)
made head (infos.BitPackedBlocked ptype m) trees = patched_blocks head ptype m (validity_over head (infos.BitPackedBlocked ptype m) trees) trees (slice_get trees (length trees - 1))
made head (infos.FoR ptype value) trees = for_over (scalar_over ptype NonNullable value) trees
made head (infos.FoRChunked ptype m) trees = for_chunked_over m.offset trees
made head (infos.Delta ptype m) trees = delta_over (record { validity = validity_over head (infos.Delta ptype m) trees; offset = m.offset; len = head.len }) trees
made head (infos.RLE ptype m) trees = rle_over (record { offset = m.offset; len = head.len }) trees

-- ---- any node
-- the array of a node over its children as they are found
abbrev pub read_node : Head → List Child → Result Tree FastLanesError
read_node head children = do
  m ← checked head (length children)
  trees ← read_children (expected_children head m (length children)) children
  made head m trees

abbrev mutual
  -- the array that a node is read as, or the first refusal
  pub reading : Node → Result Tree FastLanesError
  reading (Of head children) = read_node head (found_children children)

  -- nodes as children
  pub found_children : Nodes → List Child
  found_children NoMore = []
  found_children (And node nodes) = record { dtype = (head_of node).dtype; len = (head_of node).len; tree = reading node } ∷ found_children nodes
