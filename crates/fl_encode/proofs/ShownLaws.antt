-- What an encoded array shows of its scheme.
use Rattle.std.proofs.Common.{Result, Ok, Err, ap}
use Rattle.fl_types.specs.declared.error.FastLanesError.{FastLanesError}
use Rattle.fl_column.specs.Columns.{PrimitiveParts}
use Rattle.fl_codec.specs.Parts.{ByChunk, FoRParts, Nulls, OneReference, Whole, compress_deltas, encode_chunked_by, encode_global_by}
use Rattle.fl_array.specs.Trees.{Tree}
use Rattle.fl_encode.specs.declared.scheme.Packing.{Packing}
use Rattle.fl_encode.specs.declared.scheme.Packing.TheVariants.{BestWidth, BestWidths, Width}
use Rattle.fl_encode.specs.Encodings.{HasReference, HasReferences, IsEncodedAs, runs_by}
use Rattle.fl_encode.specs.Packings.{IsPackedAs}
use Rattle.fl_encode.specs.Shapes.{BitPacked, Constant, Delta, FoR, FoRChunked, Plain, Primitive, RLE, Shape}
use Rattle.fl_encode.specs.TreeShapes.{Shows, ShowsReference, ShowsReferences, part_shape}

packed_shows : (packing : Packing) (p : PrimitiveParts) (t : Tree) → IsPackedAs packing p t → Shows (BitPacked packing) p (part_shape t)
packed_shows BestWidth p t (parts, packed, is) = ap part_shape is
packed_shows (Width width) p t (parts, packed, is) = ap part_shape is
packed_shows BestWidths p t (parts, packed, is) = ap part_shape is

-- ---- frames of reference
abbrev AllShow : (PrimitiveParts → Tree → Type 0) → Shape → Type 0
AllShow Is child = (p : PrimitiveParts) (t : Tree) → Is p t → Shows child p (part_shape t)

one_shows : (Is : PrimitiveParts → Tree → Type 0) (child : Shape) → AllShow Is child → (parts : Result OneReference FastLanesError) (t : Tree) → HasReference Is parts t → ShowsReference (Shows child) parts (part_shape t)
one_shows Is child shown (Ok parts) t (encoded, is, made) = (part_shape encoded, shown parts.child encoded is, ap part_shape made)
one_shows Is child shown (Err refusal) t none = absurd none

chunks_show : (Is Are : PrimitiveParts → Tree → Type 0) (child others : Shape) → AllShow Is child → AllShow Are others → (parts : FoRParts) (t : Tree) → HasReferences Is Are parts t → ShowsReferences (Shows child) (Shows others) parts (part_shape t)
chunks_show Is Are child others shown more (Whole parts) t (encoded, is, made) = (part_shape encoded, shown parts.child encoded is, ap part_shape made)
chunks_show Is Are child others shown more (ByChunk first second) t (encoded, references, is, are, made) =
    (part_shape encoded, part_shape references, shown first encoded is, more second references are, ap part_shape made)
chunks_show Is Are child others shown more (Nulls first reference) t made = ap part_shape made

-- an encoded array shows its scheme
pub encoded_shows : (scheme : Shape) (p : PrimitiveParts) (t : Tree) → IsEncodedAs scheme p t → Shows scheme p (part_shape t)
encoded_shows Plain p t is = ap part_shape is
encoded_shows Primitive p t is = ap part_shape is
encoded_shows Constant p t is = ap part_shape is
encoded_shows (BitPacked packing) p t is = packed_shows packing p t is
encoded_shows (FoR order encoded) p t is = one_shows (IsEncodedAs encoded) encoded (encoded_shows encoded) (encode_global_by order p) t is
encoded_shows (FoRChunked order encoded references) p t is = chunks_show (IsEncodedAs encoded) (IsEncodedAs references) encoded references (encoded_shows encoded) (encoded_shows references) (encode_chunked_by order p) t is
encoded_shows (Delta bases deltas) p t (b, d, are, them, made) =
    (part_shape b, part_shape d, encoded_shows bases (compress_deltas p).0 b are, encoded_shows deltas (compress_deltas p).1 d them, ap part_shape made)
encoded_shows (RLE run_values values indices offsets) p t (v, i, o, are, them, those, made) =
    (part_shape v, part_shape i, part_shape o, encoded_shows values (runs_by run_values p).values v are, encoded_shows indices (runs_by run_values p).indices i them, encoded_shows offsets (runs_by run_values p).offsets o those, ap part_shape made)
