-- The trees and the parts that stored arrays have.
use Rattle.fl_array.specs.declared.array.Node.{Node}
use Rattle.fl_array.specs.declared.array.Node.TheVariants.{BitPacked, Bool, Constant, Delta, FoR, Primitive, RLE}
use Rattle.fl_array.specs.declared.bitpacking.StoredWidths.{StoredWidths}
use Rattle.fl_array.specs.declared.bitpacking.StoredWidths.TheVariants.{Global, Blocked}
use Rattle.fl_array.specs.declared.for_.StoredReferences.{StoredReferences}
use Rattle.fl_array.specs.declared.for_.StoredReferences.TheVariants as frames
use Rattle.fl_types.specs.Values.{scalar_parts}
use Rattle.fl_array.specs.BitPackedArrays.{BitWidthsParts, BlockBoundaries, GlobalWidth, tree_of_bitpacked}
use Rattle.fl_array.specs.DeltaArrays.{tree_of_delta}
use Rattle.fl_array.specs.FoRArrays.{ChunkReferences, FoRReferencesParts, GlobalReference, tree_of_for}
use Rattle.fl_array.specs.RLEArrays.{tree_of_rle}
use Rattle.fl_array.specs.Trees.{Tree}
use Rattle.fl_array.specs.Trees as tree

-- the tree of a stored array
abbrev pub tree_of : Node → Tree
tree_of (Primitive p) = tree.Primitive p
tree_of (Constant c) = tree.Constant c
tree_of (Bool b) = tree.Bool b
tree_of (BitPacked a) = tree_of_bitpacked a
tree_of (FoR a) = tree_of_for a
tree_of (Delta a) = tree_of_delta a
tree_of (RLE a) = tree_of_rle a

-- the widths that are stored
abbrev pub stored_widths : StoredWidths → BitWidthsParts
stored_widths (Global width) = GlobalWidth width
stored_widths (Blocked boundaries) = BlockBoundaries boundaries.value

-- the references that are stored
abbrev pub stored_references : StoredReferences → FoRReferencesParts
stored_references (frames.Global reference) = GlobalReference (scalar_parts reference)
stored_references (frames.Blocked references offset) = ChunkReferences references.value offset
