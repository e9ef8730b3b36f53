-- Items of packed blocks at positions.
use Rattle.std.specs.Prelude.{◌≡◌, ◌==◌, ◌+◌, ◌*◌, ◌%◌, ◌<◌, ◌≤◌, ℕ, ℤ, true, List, [], ◌∷◌, length, map, Option, Some, None, Result, Ok, Err, slice_index, take, unsigned_abs, unwrap_or, if◌then◌else◌}
use Rattle.std.specs.List.{list_all}
use Rattle.fl_types.specs.declared.dtype.PType.{PType}
use Rattle.fl_types.specs.declared.error.FastLanesError.{FastLanesError}
use Rattle.fl_types.specs.declared.error.FastLanesError.TheVariants.{IndexOutOfBounds}
use Rattle.fl_patches.specs.declared.widths.Widths.{Widths}
use Rattle.fl_patches.specs.declared.widths.Widths.TheVariants.{Global, Boundaries, PerBlock}
use Rattle.fl_column.specs.Operations.{is_in_range, item_named}
use Rattle.fl_patches.specs.PatchMaps.{patched_in}
use Rattle.fl_bitpacking.specs.Blocks.{Blocks, block_item, blocks_of, item_of_blocks, value_at}
use Rattle.fl_bitpacking.specs.Columns.{BitPackedParts, column_of_packed, packed_item, stored}
use Rattle.fl_bitpacking.specs.Parts.{parts_of}
use Rattle.fl_bitpacking.specs.Readings.{bytes_at}
use Rattle.fl_bitpacking.specs.declared.blocks.PackedBlocks.{PackedBlocks}
use Rattle.fl_bitpacking.specs.declared.compute.take.runs.Run.{Run}
use Rattle.fl_bitpacking.specs.declared.compute.take.Taking.{Taking}

-- the most positions of one block that are read one by one, in a type of this many bits; of more the block is unpacked whole
abbrev pub unpack_threshold : ℕ → ℕ
unpack_threshold bits = if bits == 8 then 16 else if bits == 16 then 32 else if bits == 32 then 64 else 160

-- ---- positions
-- each of these positions is below a length
abbrev pub AreBelow : ℕ → List ℕ → Type 0
AreBelow len positions = (i : ℕ) → i < length positions → slice_index positions i < len

-- the positions that those indices name that are not null
abbrev pub named_positions : List (Option ℤ) → List ℕ
named_positions [] = []
named_positions (None ∷ indices) = named_positions indices
named_positions (Some z ∷ indices) = unsigned_abs z ∷ named_positions indices

-- the same, or why there are none
abbrev pub named_positions_in : ℕ → List (Option ℤ) → Result (List ℕ) FastLanesError
named_positions_in len indices = if list_all (is_in_range len) indices then Ok (named_positions indices) else Err IndexOutOfBounds

-- the positions so far are those of the first of the indices, each of which is in range
pub record AreNamed (len : ℕ) (indices : List (Option ℤ)) (count : ℕ) (positions : List ℕ) : Type 0 where
  pub range : list_all (is_in_range len) (take count indices) ≡ true
  pub named : positions ≡ named_positions (take count indices)

-- the positions are those that the indices name, all of which are in range
pub record ArePositions (len : ℕ) (indices : List (Option ℤ)) (positions : List ℕ) : Type 0 where
  pub range : list_all (is_in_range len) indices ≡ true
  pub named : positions ≡ named_positions indices
  pub below : AreBelow len positions
  pub few : length positions ≤ length indices

-- ---- runs
-- it is known where a block starts without the widths of those before it
abbrev pub HasStarts : Widths → Type 0
HasStarts (Global width) = Unit {0}
HasStarts (Boundaries boundaries) = Unit {0}
HasStarts (PerBlock widths) = ⊥

-- a run is that of the positions from one place of the list up to another, which lie in one block of these bytes: its extent gives the items of these positions
pub record IsRun (bits : ℕ) (bytes : List ℕ) (blocks : PackedBlocks) (positions : List ℕ) (run : Run) : Type 0 where
  pub order : run.from < run.to
  pub within : run.to ≤ length positions
  pub narrow : run.extent.width ≤ bits
  pub room : run.extent.start + 128 * run.extent.width ≤ length bytes
  pub each : (ptype : PType) (i : ℕ) → run.from ≤ i → i < run.to → block_item ptype run.extent.width (bytes_at run.extent bytes) ((blocks.offset + slice_index positions i) % 1024) ≡ item_of_blocks ptype (blocks_of blocks.widths) bytes (blocks.offset + slice_index positions i)

-- the first of these integers are the items at the first of these positions, as their bits stand in the blocks of these bytes
pub record AreTaken {T : Type 0} (value : T → ℤ) (ptype : PType) (bytes : List ℕ) (blocks : PackedBlocks) (positions : List ℕ) (count : ℕ) (items : List T) : Type 0 where
  pub each : (i : ℕ) → i < count → value_at value items i ≡ item_of_blocks ptype (blocks_of blocks.widths) bytes (blocks.offset + slice_index positions i)

-- ---- columns

-- what stands at position p of a column, also under a null: its patch, else what is stored
abbrev pub slot_at : BitPackedParts → Blocks → ℕ → ℤ
slot_at parts blocks p = unwrap_or (patched_in parts.patches p) (stored parts blocks p)

-- there is an integer for each position: what stands there
pub record AreSlots {T : Type 0} (value : T → ℤ) (taking : Taking) (slots : List T) : Type 0 where
  pub even : length slots ≡ length taking.positions.now
  pub each : (i : ℕ) → i < length slots → value_at value slots i ≡ slot_at (parts_of taking.column) (blocks_of taking.widths) (slice_index taking.positions.now i)

-- the items at the positions
abbrev pub items_taken : Taking → List (Option ℤ)
items_taken taking = map (packed_item (parts_of taking.column) (blocks_of taking.widths)) taking.positions.now

-- the items that indices name, null where an index is null
abbrev pub items_named : Taking → List (Option ℤ) → List (Option ℤ)
items_named taking indices = map (item_named (column_of_packed (parts_of taking.column) (blocks_of taking.widths)).items) indices
