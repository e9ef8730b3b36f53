-- Widths by which the blocks of parts are read.
use Rattle.std.specs.Prelude.{◌≡◌, ◌==◌, ◌+◌, ◌*◌, ◌≤◌, Bool, true, IsTrue, length}
use Rattle.fl_types.specs.Integers.{bits_of_type}
use Rattle.fl_column.specs.Numbers.{numbers}
use Rattle.fl_patches.specs.declared.widths.Widths.{Widths}
use Rattle.fl_patches.specs.declared.widths.Widths.TheVariants.{Global, Boundaries, PerBlock}
use Rattle.fl_bitpacking.specs.Blocks.{are_blocks}
use Rattle.fl_bitpacking.specs.Columns.{BitPackedParts, block_count}

-- these are the widths of the blocks of these parts, by which they are read: one of at most the type's bits, at which all blocks lie in the bytes; or one boundary more than blocks, each two neighbours enclosing a block in the bytes. A list of widths is read of none, since it does not say where a block starts
abbrev pub AreWidthsOf : BitPackedParts → Widths → Type 0
AreWidthsOf parts (Global width) = (width ≤ bits_of_type parts.ptype) × (128 * width * block_count parts ≤ length parts.packed)
AreWidthsOf parts (Boundaries boundaries) = (length boundaries.now.slots ≡ block_count parts + 1) × IsTrue (are_blocks (bits_of_type parts.ptype) (length parts.packed) (numbers boundaries.now))
AreWidthsOf parts (PerBlock widths) = ⊥

-- a take never unpacks all blocks of these widths at once, but reads them run by run: each has a width of its own, or all have width 0
abbrev pub are_read_by_runs : Widths → Bool
are_read_by_runs (Global width) = width == 0
are_read_by_runs (Boundaries boundaries) = true
are_read_by_runs (PerBlock widths) = true
