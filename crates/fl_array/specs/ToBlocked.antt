-- Bit-packed arrays of one width made arrays of a width for each block, without packing again.
use Rattle.std.specs.Prelude.{◌||◌, Bool, false, true}
use Rattle.fl_bitpacking.specs.BlockedWidths.{width_per_block}
use Rattle.fl_bitpacking.specs.Blocks.{boundary_array}
use Rattle.fl_bitpacking.specs.Columns.{BitPackedParts}
use Rattle.fl_array.specs.BitPackedArrays.{BitPackedArrayParts, BitWidthsParts, BlockBoundaries, GlobalWidth, bitpacked_tree}
use Rattle.fl_array.specs.Kinds.{IsBitPacked, IsBitPackedBlocked, IsBool, IsConstant, IsDelta, IsFoR, IsFoRChunked, IsPrimitive, IsRLE, Kind}
use Rattle.fl_array.specs.Trees.{BitPackedBlocked, BitPackedGlobal, Constant, Delta, FoRChunked, FoRGlobal, Primitive, RLE, Tree}
use Rattle.fl_array.specs.Trees as tree

-- a width for each block, in place of one for all
abbrev pub blocked_widths : BitPackedParts → BitWidthsParts → BitWidthsParts
blocked_widths parts (GlobalWidth width) = BlockBoundaries (Primitive (boundary_array (width_per_block parts width)))
blocked_widths parts (BlockBoundaries boundaries) = BlockBoundaries boundaries

-- the same bit-packed array with a width for each block; the array of its boundaries stays as it is
abbrev pub to_blocked_shallow : BitPackedArrayParts → BitPackedArrayParts
to_blocked_shallow a = record { parts = a.parts; widths = blocked_widths a.parts a.widths }

-- the same array with a width for each block in each bit-packed array in it
abbrev pub to_blocked_tree : Tree → Tree
to_blocked_tree (Primitive p) = Primitive p
to_blocked_tree (Constant c) = Constant c
to_blocked_tree (tree.Bool b) = tree.Bool b
to_blocked_tree (BitPackedGlobal parts width) = bitpacked_tree parts (blocked_widths parts (GlobalWidth width))
to_blocked_tree (BitPackedBlocked parts boundaries) = BitPackedBlocked parts (to_blocked_tree boundaries)
to_blocked_tree (FoRGlobal encoded reference) = FoRGlobal (to_blocked_tree encoded) reference
to_blocked_tree (FoRChunked encoded references offset) = FoRChunked (to_blocked_tree encoded) (to_blocked_tree references) offset
to_blocked_tree (Delta bases deltas parts) = Delta (to_blocked_tree bases) (to_blocked_tree deltas) parts
to_blocked_tree (RLE values indices offsets window) = RLE (to_blocked_tree values) (to_blocked_tree indices) (to_blocked_tree offsets) window

-- an array of the kind is a bit-packed array of one width, or holds one
abbrev pub has_global_bitpacked : Kind → Bool
has_global_bitpacked IsPrimitive = false
has_global_bitpacked IsConstant = false
has_global_bitpacked IsBool = false
has_global_bitpacked IsBitPacked = true
has_global_bitpacked (IsBitPackedBlocked boundaries) = has_global_bitpacked boundaries
has_global_bitpacked (IsFoR encoded) = has_global_bitpacked encoded
has_global_bitpacked (IsFoRChunked encoded references) = has_global_bitpacked encoded || has_global_bitpacked references
has_global_bitpacked (IsDelta bases deltas) = has_global_bitpacked bases || has_global_bitpacked deltas
has_global_bitpacked (IsRLE values indices offsets) = has_global_bitpacked values || has_global_bitpacked indices || has_global_bitpacked offsets
