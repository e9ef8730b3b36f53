-- FoR arrays (frame of reference) by their parts, and when parts make one.
use Rattle.std.specs.Prelude.{◌+◌, ◌*◌, ◌==◌, ◌&&◌, ℕ, Bool, true, not, max, length, Option, Some, None, Result, is_none, option_and_then, if◌then◌else◌}
use Rattle.fl_types.specs.declared.dtype.DType.{DType}
use Rattle.fl_types.specs.declared.error.FastLanesError.{FastLanesError}
use Rattle.fl_types.specs.declared.error.FastLanesError.TheVariants.{NotInteger, NullReference, TypeMismatch, ReferenceCount}
use Rattle.fl_types.specs.Types.{is_integer, is_nullable, same_type}
use Rattle.fl_types.specs.Values.{ScalarParts}
use Rattle.fl_column.specs.Columns.{Column}
use Rattle.fl_column.specs.Chunks.{chunk_count}
use Rattle.fl_bitpacking.specs.Refusals.{accepted, otherwise, positions_refusal}
use Rattle.fl_array.specs.BitPackedArrays.{BitPackedArrayParts, bitpacked_in}
use Rattle.fl_array.specs.Reads.{constant_in}
use Rattle.fl_array.specs.Trees.{Tree, Constant, FoRChunked, FoRGlobal, column, height}
use Rattle.fl_array.specs.Trees as tree

-- the one reference of all items, or the array of the chunks' references and the position of the first item in its chunk
pub data FoRReferencesParts : Type 0 where
  GlobalReference : ScalarParts → FoRReferencesParts
  ChunkReferences : Tree → ℕ → FoRReferencesParts

-- a FoR array: the encoded items, to which the references are added
pub record FoRArrayParts : Type 0 where
  pub encoded : Tree
  pub references : FoRReferencesParts

-- the position of the first item in its chunk, 0 where there is one reference
abbrev pub offset_of_references : FoRReferencesParts → ℕ
offset_of_references (GlobalReference reference) = 0
offset_of_references (ChunkReferences references offset) = offset

-- the array of the chunks' references, if there is one
abbrev pub chunk_references_in : FoRReferencesParts → Option Tree
chunk_references_in (GlobalReference reference) = None
chunk_references_in (ChunkReferences references offset) = Some references

-- references of chunks are no constant array, which would be one reference
abbrev pub has_no_constant : FoRReferencesParts → Bool
has_no_constant (GlobalReference reference) = true
has_no_constant (ChunkReferences references offset) = is_none (constant_in references)

-- the tree of these parts
abbrev pub for_tree : Tree → FoRReferencesParts → Tree
for_tree encoded (GlobalReference reference) = FoRGlobal encoded reference
for_tree encoded (ChunkReferences references offset) = FoRChunked encoded references offset

-- the array as a tree
abbrev pub tree_of_for : FoRArrayParts → Tree
tree_of_for a = for_tree a.encoded a.references

-- the FoR array that a tree is, if it is one
abbrev pub for_in : Tree → Option FoRArrayParts
for_in (tree.FoRGlobal encoded reference) = Some (record { encoded = encoded; references = GlobalReference reference })
for_in (tree.FoRChunked encoded references offset) = Some (record { encoded = encoded; references = ChunkReferences references offset })
for_in other = None

-- the bit-packed array that the encoded items are, if its blocks are the chunks of the references
abbrev pub packed_in_chunks : FoRArrayParts → Option BitPackedArrayParts
packed_in_chunks a = option_and_then (λ (p : BitPackedArrayParts). if p.parts.offset == offset_of_references a.references then Some p else None) (bitpacked_in a.encoded)

-- ---- constructors
-- why a scalar is no reference of items of a type, if it is none
abbrev pub reference_refusal : DType → ScalarParts → Option FastLanesError
reference_refusal dtype reference =
    if not (is_integer dtype) then Some NotInteger
    else if is_none reference.value then Some NullReference
    else if not (same_type reference.dtype dtype) then Some TypeMismatch
    else None

-- why this many references are not one for each chunk of this many items from an offset on, if they are not
abbrev pub reference_count_refusal : ℕ → ℕ → DType → ℕ → Option FastLanesError
reference_count_refusal offset len dtype count =
    otherwise (positions_refusal offset len) (
    if not (is_integer dtype) then Some NotInteger
    else if not (count == chunk_count (offset + len)) then Some ReferenceCount
    else None)

-- why references of a type are not those of items of a type, if they are not
abbrev pub reference_type_refusal : DType → DType → Option FastLanesError
reference_type_refusal dtype references = if same_type references dtype && not (is_nullable references) then None else Some TypeMismatch

-- why items and references make no array, the first reason that holds
abbrev pub for_refusal : Column → FoRReferencesParts → Option FastLanesError
for_refusal encoded (GlobalReference reference) = reference_refusal encoded.dtype reference
for_refusal encoded (ChunkReferences references offset) =
    otherwise (reference_count_refusal offset (length encoded.items) encoded.dtype (length (column references).items)) (reference_type_refusal encoded.dtype (column references).dtype)

-- the same of an array's own parts
abbrev pub refusal_of_for : FoRArrayParts → Option FastLanesError
refusal_of_for a = for_refusal (column a.encoded) a.references

-- the array of one reference, or why there is none
abbrev pub new_for : Tree → ScalarParts → Result FoRArrayParts FastLanesError
new_for encoded reference = accepted (record { encoded = encoded; references = GlobalReference reference }) (for_refusal (column encoded) (GlobalReference reference))

-- a constant array is one reference, any other one a reference for each chunk
abbrev pub references_of : Tree → ℕ → FoRReferencesParts
references_of (Constant constant) offset = GlobalReference constant.scalar
references_of other offset = ChunkReferences other offset

-- why items and references of their chunks make no array, the first reason that holds
abbrev pub for_chunked_refusal : Column → Tree → ℕ → Option FastLanesError
for_chunked_refusal encoded references offset =
    otherwise (reference_count_refusal offset (length encoded.items) encoded.dtype (length (column references).items)) (for_refusal encoded (references_of references offset))

-- the array of a reference for each chunk, or why there is none
abbrev pub new_for_chunked : Tree → Tree → ℕ → Result FoRArrayParts FastLanesError
new_for_chunked encoded references offset = accepted (record { encoded = encoded; references = references_of references offset }) (for_chunked_refusal (column encoded) references offset)

-- above the sizes of the children
abbrev pub size_of_references : ℕ → FoRReferencesParts → ℕ
size_of_references encoded (GlobalReference reference) = 2 * encoded + 1
size_of_references encoded (ChunkReferences references offset) = 2 * max encoded (height references) + 1
