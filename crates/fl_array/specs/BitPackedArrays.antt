-- Bit-packed arrays by their parts, and when parts make one.
use Rattle.std.specs.Prelude.{◌+◌, ◌*◌, ℕ, Bool, true, false, length, Option, Some, None, Result, Ok, Err}
use Rattle.fl_types.specs.declared.error.FastLanesError.{FastLanesError}
use Rattle.fl_types.specs.declared.error.FastLanesError.TheVariants.{NotGlobal}
use Rattle.fl_column.specs.Columns.{Column, numbers_of}
use Rattle.fl_bitpacking.specs.Blocks.{Blocks, boundary_blocks, global_blocks}
use Rattle.fl_bitpacking.specs.Columns.{BitPackedParts, block_count}
use Rattle.fl_bitpacking.specs.Refusals.{accepted, block_offsets_refusal, blocked_refusal, global_refusal, otherwise, positions_refusal}
use Rattle.fl_array.specs.Trees.{Tree, BitPackedBlocked, BitPackedGlobal, column, height}
use Rattle.fl_array.specs.Trees as tree

-- the one width of all blocks, or the array of the boundaries between them
pub data BitWidthsParts : Type 0 where
  GlobalWidth : ℕ → BitWidthsParts
  BlockBoundaries : Tree → BitWidthsParts

-- a bit-packed array
pub record BitPackedArrayParts : Type 0 where
  pub parts : BitPackedParts
  pub widths : BitWidthsParts

-- the tree of these parts
abbrev pub bitpacked_tree : BitPackedParts → BitWidthsParts → Tree
bitpacked_tree parts (GlobalWidth width) = BitPackedGlobal parts width
bitpacked_tree parts (BlockBoundaries boundaries) = BitPackedBlocked parts boundaries

-- the array as a tree
abbrev pub tree_of_bitpacked : BitPackedArrayParts → Tree
tree_of_bitpacked a = bitpacked_tree a.parts a.widths

-- the bit-packed array that a tree is, if it is one
abbrev pub bitpacked_in : Tree → Option BitPackedArrayParts
bitpacked_in (tree.BitPackedGlobal parts width) = Some (record { parts = parts; widths = GlobalWidth width })
bitpacked_in (tree.BitPackedBlocked parts boundaries) = Some (record { parts = parts; widths = BlockBoundaries boundaries })
bitpacked_in other = None

-- where the blocks lie in the bytes
abbrev pub blocks_of_widths : BitWidthsParts → Blocks
blocks_of_widths (GlobalWidth width) = global_blocks width
blocks_of_widths (BlockBoundaries boundaries) = boundary_blocks (numbers_of (column boundaries))

-- all blocks have one width
abbrev pub is_global : BitWidthsParts → Bool
is_global (GlobalWidth width) = true
is_global (BlockBoundaries boundaries) = false

-- what is answered where all blocks have one width
abbrev pub if_global : {A : Type 0} → BitWidthsParts → A → Result A FastLanesError
if_global (GlobalWidth width) x = Ok x
if_global (BlockBoundaries boundaries) x = Err NotGlobal

-- ---- constructors
-- why parts make no array, the first reason that holds
abbrev pub bit_widths_refusal : BitPackedParts → BitWidthsParts → Option FastLanesError
bit_widths_refusal parts (GlobalWidth width) = global_refusal parts width
bit_widths_refusal parts (BlockBoundaries boundaries) = blocked_refusal parts (column boundaries)

-- the same of an array's own parts
abbrev pub refusal_of_bitpacked : BitPackedArrayParts → Option FastLanesError
refusal_of_bitpacked a = bit_widths_refusal a.parts a.widths

-- the array of these parts, or why there is none
abbrev pub new_bitpacked : BitPackedParts → BitWidthsParts → Result BitPackedArrayParts FastLanesError
new_bitpacked parts widths = accepted (record { parts = parts; widths = widths }) (bit_widths_refusal parts widths)

-- why parts make no array whatever the boundaries are, if they make none
abbrev pub refusal_before_boundaries : BitPackedParts → Column → Option FastLanesError
refusal_before_boundaries parts boundaries = otherwise (positions_refusal parts.offset parts.len) (block_offsets_refusal (block_count parts) boundaries.dtype (length boundaries.items))

-- above the size of the boundaries
abbrev pub size_of_widths : BitWidthsParts → ℕ
size_of_widths (GlobalWidth width) = 0
size_of_widths (BlockBoundaries boundaries) = 2 * height boundaries + 1
