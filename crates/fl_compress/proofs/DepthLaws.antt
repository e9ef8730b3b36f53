-- How many nodes stand in one another where an array that is encoded by a scheme is written.
use Rattle.std.proofs.Common.{◌≡◌, ◌+◌, ◌≤◌, ◌++◌, ℕ, List, [], ◌∷◌, length, Option, Some, None, Result, Ok, Err, sym, subst, max, arith}
use Rattle.fl_types.specs.declared.dtype.DType.{DType}
use Rattle.fl_types.specs.declared.dtype.DType.TheVariants as dtypes
use Rattle.fl_types.specs.declared.error.FastLanesError.{FastLanesError}
use Rattle.fl_types.specs.Validities.{nullability_of}
use Rattle.fl_types.specs.declared.validity.Validity.{Validity}
use Rattle.fl_types.specs.declared.validity.Validity.TheVariants as valid
use Rattle.fl_column.specs.Columns.{PrimitiveParts}
use Rattle.fl_patches.specs.PatchMaps.{PatchesParts}
use Rattle.fl_codec.specs.Parts.{ByChunk, FoRParts, Nulls, OneReference, Whole, compress_deltas, encode_chunked_by, encode_global_by}
use Rattle.fl_bitpacking.specs.Blocks.{boundary_array}
use Rattle.fl_bitpacking.specs.Columns.{BitPackedParts}
use Rattle.fl_bitpacking.specs.Encoders.{best_width_of, best_widths_of}
use Rattle.fl_array.specs.Trees.{Tree}
use Rattle.fl_array.specs.Trees as tree
use Rattle.fl_serialized.specs.Nodes.{Node, depth, depth_of, nodes_of}
use Rattle.fl_serde.specs.Writing.{chunk_offset_nodes, packed_nodes, patch_nodes, validity_nodes, written}
use Rattle.fl_encode.specs.declared.scheme.Packing.{Packing}
use Rattle.fl_encode.specs.declared.scheme.Packing.TheVariants.{BestWidth, BestWidths, Width}
use Rattle.fl_encode.specs.Encodings.{HasReference, HasReferences, IsEncodedAs, runs_by, whole_delta, whole_window}
use Rattle.fl_encode.specs.Packings.{IsPackedAs}
use Rattle.fl_encode.specs.Shapes.{BitPacked, Constant, Delta, FoR, FoRChunked, Plain, Primitive, RLE, Shape, levels}

-- ---- nodes without children
all_in : (first others : List Node) → depth_of (nodes_of (first ++ others)) ≡ max (depth_of (nodes_of first)) (depth_of (nodes_of others))
all_in [] others = omega arith
all_in (node ∷ first) others = let rest = all_in first others in omega arith

validity_flat : (len : ℕ) (v : Validity) → depth_of (nodes_of (validity_nodes len v)) ≤ 1
validity_flat len valid.NonNullable = omega arith
validity_flat len valid.AllValid = omega arith
validity_flat len valid.AllInvalid = omega arith
validity_flat len (valid.Array bits) = omega arith

offsets_flat : (offsets : Option PrimitiveParts) → depth_of (nodes_of (chunk_offset_nodes offsets)) ≤ 1
offsets_flat None = omega arith
offsets_flat (Some p) = omega arith

patches_flat : (dtype : DType) (patches : Option PatchesParts) → depth_of (nodes_of (patch_nodes dtype patches)) ≤ 1
patches_flat dtype None = omega arith
patches_flat dtype (Some p) = let offsets = offsets_flat p.chunk_offsets in omega arith

packed_flat : (parts : BitPackedParts) → depth_of (nodes_of (packed_nodes parts)) ≤ 1
packed_flat parts =
    let dtype : DType = dtypes.Primitive parts.ptype (nullability_of parts.validity) in
    let all = all_in (patch_nodes dtype parts.patches) (validity_nodes parts.len parts.validity) in
    let patches = patches_flat dtype parts.patches in
    let validity = validity_flat parts.len parts.validity in
    omega arith

-- ---- arrays of one level
plain_low : (p : PrimitiveParts) → depth (written (tree.Primitive p)) ≤ 2
plain_low p = let validity = validity_flat (length p.slots) p.validity in omega arith

packed_low : (parts : BitPackedParts) (width : ℕ) → depth (written (tree.BitPackedGlobal parts width)) ≤ 2
packed_low parts width = let flat = packed_flat parts in omega arith

blocked_low : (parts : BitPackedParts) (boundaries : PrimitiveParts) → depth (written (tree.BitPackedBlocked parts (tree.Primitive boundaries))) ≤ 3
blocked_low parts boundaries =
    let flat = packed_flat parts in
    let plain = plain_low boundaries in
    let all = all_in (packed_nodes parts) (written (tree.Primitive boundaries) ∷ []) in
    omega arith

-- an array's depth, if it is this one
depth_as : (t u : Tree) (n : ℕ) → t ≡ u → depth (written u) ≤ n → depth (written t) ≤ n
depth_as t u n is low = subst (λ (s : Tree). depth (written s) ≤ n) (sym is) low

packing_low : (packing : Packing) (p : PrimitiveParts) (t : Tree) → IsPackedAs packing p t → depth (written t) ≤ 3
packing_low BestWidth p t (parts, is, e) = depth_as t _ 3 e (let low = packed_low parts (best_width_of p) in omega arith)
packing_low (Width width) p t (parts, is, e) = depth_as t _ 3 e (let low = packed_low parts width in omega arith)
packing_low BestWidths p t (parts, is, e) = depth_as t _ 3 e (blocked_low parts (boundary_array (best_widths_of p)))

-- ---- nestings
-- what a child makes is at most two nodes deeper than its scheme
abbrev IsLow : Shape → Type 0
IsLow child = (p : PrimitiveParts) (t : Tree) → IsEncodedAs child p t → depth (written t) ≤ levels child + 2

reference_low : (child : Shape) (o : Result OneReference FastLanesError) (t : Tree) → IsLow child → HasReference (IsEncodedAs child) o t → depth (written t) ≤ levels child + 1 + 2
reference_low child (Ok parts) t low (encoded, is, e) = depth_as t (tree.FoRGlobal encoded parts.reference) _ e (let inner = low parts.child encoded is in omega arith)
reference_low child (Err refusal) t low is = absurd is

references_low : (child others : Shape) (o : FoRParts) (t : Tree) → IsLow child → IsLow others → HasReferences (IsEncodedAs child) (IsEncodedAs others) o t → depth (written t) ≤ max (levels child) (levels others) + 1 + 2
references_low child others (Whole parts) t low other_low (encoded, is, e) = depth_as t (tree.FoRGlobal encoded parts.reference) _ e (let inner = low parts.child encoded is in omega arith)
references_low child others (ByChunk p q) t low other_low (encoded, references, is, are, e) =
    depth_as t (tree.FoRChunked encoded references 0) _ e (let inner = low p encoded is in let other = other_low q references are in omega arith)
references_low child others (Nulls constant reference) t low other_low e = depth_as t (tree.FoRGlobal (tree.Constant constant) reference) _ e (omega arith)

pub encoded_low : (scheme : Shape) (p : PrimitiveParts) (t : Tree) → IsEncodedAs scheme p t → depth (written t) ≤ levels scheme + 2
encoded_low Plain p t is = depth_as t (tree.Primitive p) _ is (plain_low p)
encoded_low Primitive p t is = depth_as t (tree.Primitive p) _ is (let low = plain_low p in omega arith)
encoded_low Constant p t is = depth_as t _ _ is (omega arith)
encoded_low (BitPacked packing) p t is = packing_low packing p t is
encoded_low (FoR order encoded) p t is = reference_low encoded (encode_global_by order p) t (encoded_low encoded) is
encoded_low (FoRChunked order encoded references) p t is = references_low encoded references (encode_chunked_by order p) t (encoded_low encoded) (encoded_low references) is
encoded_low (Delta bases deltas) p t (b, d, are, them, e) =
    depth_as t (tree.Delta b d (whole_delta p)) _ e
    (let first = encoded_low bases (compress_deltas p).0 b are in
    let other = encoded_low deltas (compress_deltas p).1 d them in
    let validity = validity_flat (length p.slots) p.validity in
    omega arith)
encoded_low (RLE run_values values indices offsets) p t (v, i, o, are, them, those, e) =
    depth_as t (tree.RLE v i o (whole_window p)) _ e
    (let first = encoded_low values (runs_by run_values p).values v are in
    let other = encoded_low indices (runs_by run_values p).indices i them in
    let last = encoded_low offsets (runs_by run_values p).offsets o those in
    omega arith)

-- a scheme that has a text
pub text_low : (scheme : Shape) (p : PrimitiveParts) (t : Tree) → levels scheme ≤ 14 → IsEncodedAs scheme p t → depth (written t) ≤ 16
text_low scheme p t few is = let low = encoded_low scheme p t is in omega arith
