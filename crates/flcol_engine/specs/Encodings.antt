-- The schemes of encodings, and the arrays that they make of a primitive one.
use Rattle.std.specs.Prelude.{Option, Some, None, Result}
use Rattle.fl_types.specs.declared.error.FastLanesError.{FastLanesError}
use Rattle.fl_column.specs.Columns.{PrimitiveParts}
use Rattle.fl_codec.specs.declared.for_.ItemOrder.TheVariants.{Natural}
use Rattle.fl_array.specs.Trees.{Tree}
use Rattle.fl_encode.specs.declared.scheme.Packing.{Packing}
use Rattle.fl_encode.specs.Encodings as schemes
use Rattle.fl_encode.specs.Shapes.{BitPacked, Delta, FoR, FoRChunked, Plain, Primitive, RLE, Runs, Shape}
use Rattle.flcol_engine.specs.declared.commands.Encoding.{Encoding}
use Rattle.flcol_engine.specs.declared.commands.Encoding.TheVariants as encodings

-- a child, which is packed where that is asked for, and else plain
abbrev pub child_of : Option Packing → Shape
child_of None = Plain
child_of (Some packing) = BitPacked packing

-- the scheme of an encoding, whose other children are plain
abbrev pub scheme_of : Encoding → Shape
scheme_of encodings.Primitive = Primitive
scheme_of (encodings.BitPacked packing) = BitPacked packing
scheme_of (encodings.FoR packing) = FoR Natural (child_of packing)
scheme_of (encodings.ChunkedFoR packing) = FoRChunked Natural (child_of packing) Plain
scheme_of (encodings.Delta packing) = Delta Plain (child_of packing)
scheme_of (encodings.RLE packing) = RLE Runs Plain (child_of packing) Plain

-- what encoding a primitive array answers: exactly the array of the encoding's parts, which has the same column, or the first refusal
abbrev pub EncodesAs : Encoding → PrimitiveParts → Result Tree FastLanesError → Type 0
EncodesAs encoding p result = schemes.EncodesAs (scheme_of encoding) p result
