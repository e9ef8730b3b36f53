-- Packed blocks of 1024 items behind each other in bytes, each at a width of its own or all at one.
use Rattle.std.specs.Prelude.{◌≡◌, ◌==◌, ◌&&◌, ◌+◌, ◌-◌, ◌*◌, ◌/◌, ◌%◌, ◌<◌, ◌≤◌, ℕ, ℤ, pos, Bool, List, length, map, take, sum, slice_index, slice_index_or, nat_le}
use Rattle.fastlanes.specs.Layout.{Packed, unpacked_item, word_at}
use Rattle.fl_types.specs.declared.dtype.PType.{PType}
use Rattle.fl_types.specs.Bits.{between, tabulate}
use Rattle.fl_types.specs.Integers.{bits_of_type, lanes_of_type, pattern_of, read_as}
use Rattle.fl_column.specs.Columns.{PrimitiveParts}
use Rattle.fl_column.specs.Numbers.{index_array, numbers}
use Rattle.fl_column.specs.Queries.{each_next}
use Rattle.fl_patches.specs.declared.widths.Widths.{Widths}
use Rattle.fl_patches.specs.declared.widths.Widths.TheVariants.{Global, Boundaries, PerBlock}
use Rattle.fl_column.specs.Chunks.{chunk_count}

-- where each block starts in the bytes, and its width
pub record Blocks : Type 0 where
  pub start : ℕ → ℕ
  pub width : ℕ → ℕ

-- all blocks have one width
abbrev pub global_blocks : ℕ → Blocks
global_blocks width = record { start = λ j. 128 * width * j; width = λ j. width }

-- the boundaries of blocks of these widths: the sums of 128 * width, from 0 on
abbrev pub boundaries_of : List ℕ → List ℕ
boundaries_of widths = tabulate (λ j. 128 * sum (take j widths)) (length widths + 1)

-- block j lies between the boundaries j and j + 1, counted from the first one
abbrev pub boundary_blocks : List ℕ → Blocks
boundary_blocks boundaries = record { start = λ j. slice_index boundaries j - slice_index boundaries 0; width = λ j. (slice_index boundaries (j + 1) - slice_index boundaries j) / 128 }

-- where the blocks of these widths lie
abbrev pub blocks_of : Widths → Blocks
blocks_of (Global width) = global_blocks width
blocks_of (Boundaries boundaries) = boundary_blocks (numbers boundaries.now)
blocks_of (PerBlock widths) = boundary_blocks (boundaries_of widths.now)

-- the bytes of block j
abbrev pub bytes_of_block : Blocks → List ℕ → ℕ → List ℕ
bytes_of_block blocks bytes j = between (blocks.start j) (blocks.start j + 128 * blocks.width j) bytes

-- ---- boundaries
-- two neighbouring boundaries are those of a block: the start is at or above the first boundary and the end at or above the start, they lie within this many bytes from the first one, the block starts and ends after whole multiples of 128 bytes, and its width is at most the type's bits
abbrev pub is_block : ℕ → ℕ → ℕ → ℕ → ℕ → Bool
is_block bits size first start end =
    nat_le first start && (nat_le start end && (nat_le (end - first) size && (((start - first) % 128 == 0) && (((end - start) % 128 == 0) && nat_le ((end - start) / 128) bits))))

-- each two neighbouring boundaries are those of a block
abbrev pub are_blocks : ℕ → ℕ → List ℕ → Bool
are_blocks bits size boundaries = each_next (is_block bits size (slice_index boundaries 0)) boundaries

-- the boundaries of blocks of these widths as a plain array of the smallest type that holds the last one
abbrev pub boundary_array : List ℕ → PrimitiveParts
boundary_array widths = index_array (128 * sum widths) (boundaries_of widths)

-- ---- packing
-- the pattern of the integer at a position, 0 behind the last one
unfoldable pub pattern_in : PType → List ℤ → ℕ → ℕ
pattern_in ptype integers i = pattern_of ptype (slice_index_or integers i (pos 0))

-- these bytes are the packed low bits of these integers, block by block, and behind the last integer stands 0
pub record ArePacked (ptype : PType) (integers : List ℤ) (blocks : Blocks) (bytes : List ℕ) : Type 0 where
  pub size : length bytes ≡ blocks.start (chunk_count (length integers))
  pub each : (j : ℕ) → j < chunk_count (length integers) → Packed (bits_of_type ptype) (lanes_of_type ptype) (blocks.width j) (λ q. pattern_in ptype integers (1024 * j + q)) (word_at (bits_of_type ptype) (bytes_of_block blocks bytes j))

-- these words, read as integers of the type, are the packed low bits of these integers, block by block, and behind the last integer stands 0
pub record AreWords (ptype : PType) (integers : List ℤ) (width : ℕ) (words : List ℤ) : Type 0 where
  pub size : length words ≡ width * lanes_of_type ptype * chunk_count (length integers)
  pub each : (j : ℕ) → j < chunk_count (length integers) → Packed (bits_of_type ptype) (lanes_of_type ptype) width (λ q. pattern_in ptype integers (1024 * j + q)) (λ m. pattern_in ptype words (width * lanes_of_type ptype * j + m))

-- the integer of element i
unfoldable pub value_at : {T : Type 0} → (T → ℤ) → List T → ℕ → ℤ
value_at value items i = slice_index_or (map value items) i (pos 0)

-- ---- reading
-- the item at position q of a packed block, read as the type
unfoldable pub block_item : PType → ℕ → List ℕ → ℕ → ℤ
block_item ptype width bytes q = read_as ptype (unpacked_item (bits_of_type ptype) (lanes_of_type ptype) width (word_at (bits_of_type ptype) bytes) q)

-- the item at position p of packed blocks, read as the type
unfoldable pub item_of_blocks : PType → Blocks → List ℕ → ℕ → ℤ
item_of_blocks ptype blocks bytes p = block_item ptype (blocks.width (p / 1024)) (bytes_of_block blocks bytes (p / 1024)) (p % 1024)

-- this many blocks lie within this many bytes, each at a width of at most this many bits
pub record AreWithin (bits count size : ℕ) (blocks : Blocks) : Type 0 where
  pub room : (j : ℕ) → j < count → blocks.start j + 128 * blocks.width j ≤ size
  pub narrow : (j : ℕ) → j < count → blocks.width j ≤ bits

-- this many blocks stand behind each other from the first byte on, and have this many bytes
pub record AreJoined (count size : ℕ) (blocks : Blocks) : Type 0 where
  pub first : blocks.start 0 ≡ 0
  pub next : (j : ℕ) → j < count → blocks.start (j + 1) ≡ blocks.start j + 128 * blocks.width j
  pub last : blocks.start count ≡ size
