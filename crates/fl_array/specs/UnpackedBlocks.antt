-- How many blocks a comparison of a bit-packed array unpacks.
use Rattle.std.specs.Prelude.{◌≡◌, ℕ, ℤ, Bool, List}
use Rattle.fastlanes.specs.Counts.{Counts}
use Rattle.fl_column.specs.Columns.{numbers_of}
use Rattle.fl_bitpacking.specs.Blocks.{boundary_blocks}
use Rattle.fl_bitpacking.specs.Columns.{BitPackedParts}
use Rattle.fl_bitpacking.specs.Decided.{undecided_blocks, undecided_by_block, undecided_of_one_width}
use Rattle.fl_bitpacking.specs.References.{of_sum}
use Rattle.fl_array.specs.BitPackedArrays.{BitPackedArrayParts, BitWidthsParts, BlockBoundaries, GlobalWidth, blocks_of_widths}
use Rattle.fl_array.specs.Trees.{column}

-- where all blocks have one width each block or none, else those whose own width does not decide the predicate
abbrev pub unpacked_at : BitPackedParts → BitWidthsParts → (ℤ → Bool) → ℕ
unpacked_at parts (GlobalWidth width) predicate = undecided_of_one_width parts width predicate
unpacked_at parts (BlockBoundaries boundaries) predicate = undecided_blocks parts (boundary_blocks (numbers_of (column boundaries))) predicate

-- how many blocks of an array are unpacked to test its items
abbrev pub blocks_to_unpack : BitPackedArrayParts → (ℤ → Bool) → ℕ
blocks_to_unpack a predicate = unpacked_at a.parts a.widths predicate

-- what a comparison of an array unpacks: these blocks, and no word besides
pub record IsComparisonOf (a : BitPackedArrayParts) (predicate : ℤ → Bool) (work : Counts) : Type 0 where
  pub blocks : work.blocks ≡ blocks_to_unpack a predicate
  pub words : work.words ≡ 0

-- what a comparison of the sums of an array's items and the references of their blocks unpacks: each block whose own width does not decide the predicate of its sums, and no word besides
pub record IsComparisonOfSums (a : BitPackedArrayParts) (references : List ℤ) (predicate : ℤ → Bool) (work : Counts) : Type 0 where
  pub blocks : work.blocks ≡ undecided_by_block a.parts (blocks_of_widths a.widths) (of_sum a.parts.ptype references predicate)
  pub words : work.words ≡ 0
