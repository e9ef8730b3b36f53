-- FoR arrays that are made of primitive ones.
use Rattle.std.specs.Prelude.{Result, Ok, Err}
use Rattle.fl_types.specs.declared.error.FastLanesError.{FastLanesError}
use Rattle.fl_column.specs.Columns.{PrimitiveParts}
use Rattle.fl_codec.specs.Parts.{ByChunk, FoRParts, Nulls, OneReference, Whole, encode_chunked_by, encode_global_by}
use Rattle.fl_codec.specs.declared.for_.ItemOrder.{ItemOrder}
use Rattle.fl_codec.specs.declared.for_.ItemOrder.TheVariants.{Natural, Signed}
use Rattle.fl_array.specs.FoRArrays.{ChunkReferences, FoRArrayParts, GlobalReference}
use Rattle.fl_array.specs.Trees.{Constant, Primitive}

-- the array of a primitive child and its one reference
abbrev pub for_of_one : OneReference → FoRArrayParts
for_of_one parts = record { encoded = Primitive parts.child; references = GlobalReference parts.reference }

-- the array of what an encoder made
abbrev pub for_of_parts : FoRParts → FoRArrayParts
for_of_parts (Whole parts) = for_of_one parts
for_of_parts (ByChunk child references) = record { encoded = Primitive child; references = ChunkReferences (Primitive references) 0 }
for_of_parts (Nulls constant reference) = record { encoded = Constant constant; references = GlobalReference reference }

-- the array, where there is a child with its one reference
abbrev pub for_if_one : Result OneReference FastLanesError → Result FoRArrayParts FastLanesError
for_if_one (Ok parts) = Ok (for_of_one parts)
for_if_one (Err refusal) = Err refusal

-- the array of a primitive one less the least valid item of an order, or why there is none
abbrev pub encoded_for_by : ItemOrder → PrimitiveParts → Result FoRArrayParts FastLanesError
encoded_for_by order p = for_if_one (encode_global_by order p)

-- the array of a primitive one less its least valid item, or why there is none
abbrev pub encoded_for : PrimitiveParts → Result FoRArrayParts FastLanesError
encoded_for p = encoded_for_by Natural p

-- the same of the least valid item that is read as signed
abbrev pub encoded_for_wrapped : PrimitiveParts → Result FoRArrayParts FastLanesError
encoded_for_wrapped p = encoded_for_by Signed p

-- the array of a primitive one less the least valid item of each chunk of 1024, by an order
abbrev pub encoded_for_chunked_by : ItemOrder → PrimitiveParts → FoRArrayParts
encoded_for_chunked_by order p = for_of_parts (encode_chunked_by order p)

-- the array of a primitive one less the least valid item of each chunk of 1024
abbrev pub encoded_for_chunked : PrimitiveParts → FoRArrayParts
encoded_for_chunked p = encoded_for_chunked_by Natural p

-- the same of the least valid items that are read as signed
abbrev pub encoded_for_chunked_wrapped : PrimitiveParts → FoRArrayParts
encoded_for_chunked_wrapped p = encoded_for_chunked_by Signed p
