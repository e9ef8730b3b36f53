-- What a slice of a bit-packed column keeps: the blocks from floor to ceiling.
use Rattle.std.specs.Prelude.{◌≡◌, None, slice_index, ◌+◌, ◌-◌, ◌/◌, ◌%◌, ℕ, option_and_then}
use Rattle.fl_types.specs.Bits.{between}
use Rattle.fl_types.specs.Validities.{validity_between}
use Rattle.fl_patches.specs.PatchMaps.{slice_patches}
use Rattle.fl_column.specs.Chunks.{chunk_count}
use Rattle.fl_column.specs.Columns.{Column, numbers_of}
use Rattle.fl_column.specs.Operations.{slice_of}
use Rattle.fl_bitpacking.specs.Blocks.{boundary_blocks}
use Rattle.fl_bitpacking.specs.Columns.{BitPackedParts, column_of_packed}
use Rattle.fl_bitpacking.specs.Refusals.{blocked_refusal}

-- the first block that a slice keeps
abbrev pub first_block : ℕ → ℕ → ℕ
first_block offset start = (offset + start) / 1024

-- the block behind the last one that a slice keeps
abbrev pub end_block : ℕ → ℕ → ℕ
end_block offset end = chunk_count (offset + end)

-- the parts of the items from start to below end, whose blocks lie from one byte up to another
abbrev pub sliced_parts : ℕ → ℕ → ℕ → ℕ → BitPackedParts → BitPackedParts
sliced_parts from to start end parts = record {
  packed = between from to parts.packed;
  ptype = parts.ptype;
  validity = validity_between start end parts.validity;
  patches = option_and_then (slice_patches start end) parts.patches;
  offset = (parts.offset + start) % 1024;
  len = end - start;
}

-- the first boundary, and those before the first and behind the last block that a slice keeps
pub record HasEnds (boundaries : Column) (offset start end first from to : ℕ) : Type 0 where
  pub first_is : slice_index (numbers_of boundaries) 0 ≡ first
  pub from_is : slice_index (numbers_of boundaries) (first_block offset start) ≡ from
  pub to_is : slice_index (numbers_of boundaries) (end_block offset end) ≡ to

-- the boundaries of the blocks that a slice keeps
abbrev pub sliced_boundaries : ℕ → ℕ → ℕ → Column → Column
sliced_boundaries offset start end boundaries = slice_of (first_block offset start) (end_block offset end + 1) boundaries

-- the parts are those of a slice, whose blocks lie between the boundaries that are kept
pub record IsBlockedSlice (boundaries : Column) (old : BitPackedParts) (start end : ℕ) (new : BitPackedParts) : Type 0 where
  pub sound : blocked_refusal new (sliced_boundaries old.offset start end boundaries) ≡ None
  pub column : column_of_packed new (boundary_blocks (numbers_of (sliced_boundaries old.offset start end boundaries))) ≡ slice_of start end (column_of_packed old (boundary_blocks (numbers_of boundaries)))
