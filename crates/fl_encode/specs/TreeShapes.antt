-- The schemes that arrays show, and what an array shows of the scheme that it was encoded by.
use Rattle.std.specs.Prelude.{◌≡◌, Result, Ok, Err, if◌then◌else◌}
use Rattle.fl_types.specs.declared.error.FastLanesError.{FastLanesError}
use Rattle.fl_types.specs.declared.error.FastLanesError.TheVariants.{NotInteger}
use Rattle.fl_types.specs.Types.{is_integer}
use Rattle.fl_column.specs.Columns.{PrimitiveParts}
use Rattle.fl_codec.specs.Parts.{ByChunk, FoRParts, Nulls, OneReference, Whole, compress_deltas, encode_chunked_by, encode_global_by}
use Rattle.fl_codec.specs.declared.for_.ItemOrder.TheVariants.{Natural}
use Rattle.fl_bitpacking.specs.Encoders.{best_width_of}
use Rattle.fl_array.specs.Trees.{Tree, column}
use Rattle.fl_array.specs.Trees as tree
use Rattle.fl_encode.specs.declared.scheme.Packing.TheVariants.{BestWidth, BestWidths, Width}
use Rattle.fl_encode.specs.Encodings.{runs_by}
use Rattle.fl_encode.specs.Shapes.{BitPacked, Constant, Delta, FoR, FoRChunked, Plain, Primitive, RLE, Runs, Shape}

-- the scheme of an array in another one: its encoding and those of the arrays in it, nothing of a plain one
abbrev pub part_shape : Tree → Shape
part_shape (tree.Primitive p) = Plain
part_shape (tree.Constant c) = Constant
part_shape (tree.Bool b) = Plain
part_shape (tree.BitPackedGlobal parts width) = BitPacked (Width width)
part_shape (tree.BitPackedBlocked parts boundaries) = BitPacked BestWidths
part_shape (tree.FoRGlobal encoded reference) = FoR Natural (part_shape encoded)
part_shape (tree.FoRChunked encoded references offset) = FoRChunked Natural (part_shape encoded) (part_shape references)
part_shape (tree.Delta bases deltas parts) = Delta (part_shape bases) (part_shape deltas)
part_shape (tree.RLE values indices offsets window) = RLE Runs (part_shape values) (part_shape indices) (part_shape offsets)

-- a plain array that stands by itself has the scheme of plain ones
abbrev pub by_itself : Shape → Shape
by_itself Plain = Primitive
by_itself other = other

-- the scheme of an array
abbrev pub tree_shape : Tree → Shape
tree_shape t = by_itself (part_shape t)

-- the same, or why there is none: no scheme makes booleans
abbrev pub shape_of : Tree → Result Shape FastLanesError
shape_of t = if is_integer (column t).dtype then Ok (tree_shape t) else Err NotInteger

-- what shows of an array less one reference: its child's parts
abbrev pub ShowsReference : (PrimitiveParts → Shape → Type 0) → Result OneReference FastLanesError → Shape → Type 0
ShowsReference ShowsChild (Ok parts) shown = (e : Shape) × ShowsChild parts.child e × (shown ≡ FoR Natural e)
ShowsReference ShowsChild (Err refusal) shown = ⊥

-- what shows of an array less the references of its chunks: one reference if these are equal, and a constant of nothing but nulls
abbrev pub ShowsReferences : (PrimitiveParts → Shape → Type 0) → (PrimitiveParts → Shape → Type 0) → FoRParts → Shape → Type 0
ShowsReferences ShowsChild ShowOthers (Whole parts) shown = (e : Shape) × ShowsChild parts.child e × (shown ≡ FoR Natural e)
ShowsReferences ShowsChild ShowOthers (ByChunk child others) shown = (e : Shape) × (r : Shape) × ShowsChild child e × ShowOthers others r × (shown ≡ FoRChunked Natural e r)
ShowsReferences ShowsChild ShowOthers (Nulls child reference) shown = shown ≡ FoR Natural Constant

-- a primitive array that is encoded by the first scheme shows the second one: the width that was chosen and not that it was, no order of the references, one reference where those of all chunks are equal, a constant for the differences of nothing but nulls, and runs for dictionaries
abbrev pub Shows : Shape → PrimitiveParts → Shape → Type 0
Shows Plain p shown = shown ≡ Plain
Shows Primitive p shown = shown ≡ Plain
Shows Constant p shown = shown ≡ Constant
Shows (BitPacked (Width width)) p shown = shown ≡ BitPacked (Width width)
Shows (BitPacked BestWidth) p shown = shown ≡ BitPacked (Width (best_width_of p))
Shows (BitPacked BestWidths) p shown = shown ≡ BitPacked BestWidths
Shows (FoR order encoded) p shown = ShowsReference (Shows encoded) (encode_global_by order p) shown
Shows (FoRChunked order encoded references) p shown = ShowsReferences (Shows encoded) (Shows references) (encode_chunked_by order p) shown
Shows (Delta bases deltas) p shown = (b : Shape) × (d : Shape) × Shows bases (compress_deltas p).0 b × Shows deltas (compress_deltas p).1 d × (shown ≡ Delta b d)
Shows (RLE run_values values indices offsets) p shown =
    (v : Shape) × (i : Shape) × (o : Shape) × Shows values (runs_by run_values p).values v × Shows indices (runs_by run_values p).indices i × Shows offsets (runs_by run_values p).offsets o × (shown ≡ RLE Runs v i o)
