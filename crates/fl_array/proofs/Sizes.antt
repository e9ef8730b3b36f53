-- Encoded arrays are smaller than the arrays that hold them.
use Rattle.std.proofs.Common.{◌*◌, ◌<◌, arith}
use Rattle.fl_array.specs.BitPackedArrays.{BitPackedArrayParts, BitWidthsParts, BlockBoundaries, GlobalWidth, bitpacked_tree, size_of_widths, tree_of_bitpacked}
use Rattle.fl_array.specs.FoRArrays.{ChunkReferences, FoRArrayParts, FoRReferencesParts, GlobalReference, for_tree, size_of_references, tree_of_for}
use Rattle.fl_array.specs.Trees.{Tree, height}
use Rattle.fl_bitpacking.specs.Columns.{BitPackedParts}

of_widths : (parts : BitPackedParts) (w : BitWidthsParts) → size_of_widths w < 2 * height (bitpacked_tree parts w)
of_widths parts (GlobalWidth width) = Prim.grind arith
of_widths parts (BlockBoundaries boundaries) = Prim.grind arith

of_references : (encoded : Tree) (r : FoRReferencesParts) → size_of_references (height encoded) r < 2 * height (for_tree encoded r)
of_references encoded (GlobalReference reference) = Prim.grind arith
of_references encoded (ChunkReferences references offset) = Prim.grind arith

pub bitpacked_size : (a : BitPackedArrayParts) → size_of_widths a.widths < 2 * height (tree_of_bitpacked a)
bitpacked_size a = of_widths a.parts a.widths

pub for_size : (a : FoRArrayParts) → size_of_references (height a.encoded) a.references < 2 * height (tree_of_for a)
for_size a = of_references a.encoded a.references
