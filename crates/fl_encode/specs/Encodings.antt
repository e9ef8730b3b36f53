-- The arrays that schemes make of a primitive one, and when they make none.
use Rattle.std.specs.Prelude.{◌≡◌, length, Option, Some, None, Result, Ok, Err, IfOk}
use Rattle.fl_types.specs.declared.error.FastLanesError.{FastLanesError}
use Rattle.fl_column.specs.Columns.{Column, PrimitiveParts, column_of_primitive}
use Rattle.fl_codec.specs.Dictionaries.{encode_dictionaries}
use Rattle.fl_codec.specs.Parts.{ByChunk, FoRParts, Nulls, OneReference, RunParts, Whole, compress_deltas, encode_chunked_by, encode_global_by, encode_runs}
use Rattle.fl_bitpacking.specs.Encoders.{AnswersUnless}
use Rattle.fl_bitpacking.specs.Refusals.{otherwise}
use Rattle.fl_array.specs.Trees.{DeltaParts, OffsetLen, Tree, column}
use Rattle.fl_array.specs.Trees as tree
use Rattle.fl_encode.specs.Packings.{IsPackedAs, constant_of, constant_refusal, packing_refusal}
use Rattle.fl_encode.specs.Shapes.{BitPacked, Constant, Delta, FoR, FoRChunked, Dictionary, Plain, Primitive, RLE, RunValues, Runs, Shape}

-- ---- frames of reference
-- why there is no array of one reference, if there is none: the first reason is that there is no reference
abbrev pub one_reference_refusal : (PrimitiveParts → Option FastLanesError) → Result OneReference FastLanesError → Option FastLanesError
one_reference_refusal encoded (Ok parts) = encoded parts.child
one_reference_refusal encoded (Err refusal) = Some refusal

-- the array has these parts, its child encoded in this way
abbrev pub HasOneReference : (PrimitiveParts → Tree → Type 0) → OneReference → Tree → Type 0
HasOneReference IsEncoded parts t = (encoded : Tree) × IsEncoded parts.child encoded × (t ≡ tree.FoRGlobal encoded parts.reference)

-- the same, where there is a reference
abbrev pub HasReference : (PrimitiveParts → Tree → Type 0) → Result OneReference FastLanesError → Tree → Type 0
HasReference IsEncoded (Ok parts) t = HasOneReference IsEncoded parts t
HasReference IsEncoded (Err refusal) t = ⊥

-- why there is no array of these parts, if there is none: the child comes before the references, and no child of nulls is encoded
abbrev pub references_refusal : (PrimitiveParts → Option FastLanesError) → (PrimitiveParts → Option FastLanesError) → FoRParts → Option FastLanesError
references_refusal encoded references (Whole parts) = encoded parts.child
references_refusal encoded references (ByChunk child others) = otherwise (encoded child) (references others)
references_refusal encoded references (Nulls child reference) = None

-- the array has this child and these references of its chunks, each encoded in its way
abbrev pub HasChunkReferences : (PrimitiveParts → Tree → Type 0) → (PrimitiveParts → Tree → Type 0) → PrimitiveParts → PrimitiveParts → Tree → Type 0
HasChunkReferences IsEncoded AreReferences child others t = (encoded : Tree) × (references : Tree) × IsEncoded child encoded × AreReferences others references × (t ≡ tree.FoRChunked encoded references 0)

-- the array has these parts, its children each encoded in its way; a constant child stays as it is
abbrev pub HasReferences : (PrimitiveParts → Tree → Type 0) → (PrimitiveParts → Tree → Type 0) → FoRParts → Tree → Type 0
HasReferences IsEncoded AreReferences (Whole parts) t = HasOneReference IsEncoded parts t
HasReferences IsEncoded AreReferences (ByChunk child others) t = HasChunkReferences IsEncoded AreReferences child others t
HasReferences IsEncoded AreReferences (Nulls child reference) t = t ≡ tree.FoRGlobal (tree.Constant child) reference

-- ---- deltas and runs
-- the array has these bases and these deltas, each encoded in its way
abbrev pub HasDeltas : (PrimitiveParts → Tree → Type 0) → (PrimitiveParts → Tree → Type 0) → PrimitiveParts × PrimitiveParts → DeltaParts → Tree → Type 0
HasDeltas AreBases AreDeltas plain parts t = (bases : Tree) × (deltas : Tree) × AreBases plain.0 bases × AreDeltas plain.1 deltas × (t ≡ tree.Delta bases deltas parts)

-- a primitive array with these run values in its chunks
abbrev pub runs_by : RunValues → PrimitiveParts → RunParts
runs_by Runs p = encode_runs p
runs_by Dictionary p = encode_dictionaries p

-- why there is no array of these run values, run indices and run offsets, if there is none: the first reason
abbrev pub run_children_refusal : (PrimitiveParts → Option FastLanesError) → (PrimitiveParts → Option FastLanesError) → (PrimitiveParts → Option FastLanesError) → RunParts → Option FastLanesError
run_children_refusal values indices offsets runs = otherwise (values runs.values) (otherwise (indices runs.indices) (offsets runs.offsets))

-- the array has these run values, run indices and run offsets, each encoded in its way
abbrev pub HasRuns : (PrimitiveParts → Tree → Type 0) → (PrimitiveParts → Tree → Type 0) → (PrimitiveParts → Tree → Type 0) → RunParts → OffsetLen → Tree → Type 0
HasRuns AreValues AreIndices AreOffsets runs window t =
    (values : Tree) × (indices : Tree) × (offsets : Tree) × AreValues runs.values values × AreIndices runs.indices indices × AreOffsets runs.offsets offsets × (t ≡ tree.RLE values indices offsets window)

-- what a delta array of a whole primitive one keeps beside its bases and deltas
abbrev pub whole_delta : PrimitiveParts → DeltaParts
whole_delta p = record { validity = p.validity; offset = 0; len = length p.slots }

-- all positions of a primitive array
abbrev pub whole_window : PrimitiveParts → OffsetLen
whole_window p = record { offset = 0; len = length p.slots }

-- ---- schemes
-- why a primitive array is not encoded, if it is not: the first reason, that of the outer encoding before those of the children in the order of their slots
abbrev pub encode_refusal : Shape → PrimitiveParts → Option FastLanesError
encode_refusal Plain p = None
encode_refusal Primitive p = None
encode_refusal Constant p = constant_refusal p
encode_refusal (BitPacked packing) p = packing_refusal packing p
encode_refusal (FoR order encoded) p = one_reference_refusal (encode_refusal encoded) (encode_global_by order p)
encode_refusal (FoRChunked order encoded references) p = references_refusal (encode_refusal encoded) (encode_refusal references) (encode_chunked_by order p)
encode_refusal (Delta bases deltas) p = otherwise (encode_refusal bases (compress_deltas p).0) (encode_refusal deltas (compress_deltas p).1)
encode_refusal (RLE run_values values indices offsets) p = run_children_refusal (encode_refusal values) (encode_refusal indices) (encode_refusal offsets) (runs_by run_values p)

-- the array is a primitive one that is encoded by a scheme
abbrev pub IsEncodedAs : Shape → PrimitiveParts → Tree → Type 0
IsEncodedAs Plain p t = t ≡ tree.Primitive p
IsEncodedAs Primitive p t = t ≡ tree.Primitive p
IsEncodedAs Constant p t = t ≡ tree.Constant (constant_of p)
IsEncodedAs (BitPacked packing) p t = IsPackedAs packing p t
IsEncodedAs (FoR order encoded) p t = HasReference (IsEncodedAs encoded) (encode_global_by order p) t
IsEncodedAs (FoRChunked order encoded references) p t = HasReferences (IsEncodedAs encoded) (IsEncodedAs references) (encode_chunked_by order p) t
IsEncodedAs (Delta bases deltas) p t = HasDeltas (IsEncodedAs bases) (IsEncodedAs deltas) (compress_deltas p) (whole_delta p) t
IsEncodedAs (RLE run_values values indices offsets) p t = HasRuns (IsEncodedAs values) (IsEncodedAs indices) (IsEncodedAs offsets) (runs_by run_values p) (whole_window p) t

-- ---- answers
-- a call returns an array of this form with this column or, if there is an error, that error, or memory ran out
pub record Makes (refusal : Option FastLanesError) (Is : Tree → Type 0) (c : Column) (result : Result Tree FastLanesError) : Type 0 where
  pub refused : AnswersUnless refusal result
  pub form : IfOk result Is
  pub stands_for : IfOk result (λ t. column t ≡ c)

-- what encoding a primitive array by a scheme answers: exactly the array of the scheme's parts, which has the same column, or the first refusal
abbrev pub EncodesAs : Shape → PrimitiveParts → Result Tree FastLanesError → Type 0
EncodesAs scheme p result = Makes (encode_refusal scheme p) (IsEncodedAs scheme p) (column_of_primitive p) result
