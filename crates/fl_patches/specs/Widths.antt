-- The widths of blocks, as the code names them.
use Rattle.std.specs.Prelude.{◌+◌, ◌-◌, ◌/◌, ◌<◌, ℕ, length, slice_index}
use Rattle.fl_column.specs.Numbers.{numbers}
use Rattle.fl_patches.specs.declared.widths.Widths.{Widths}
use Rattle.fl_patches.specs.declared.widths.Widths.TheVariants.{Global, Boundaries, PerBlock}

-- the width of a block
abbrev pub block_width : Widths → ℕ → ℕ
block_width (Global width) j = width
block_width (Boundaries boundaries) j = (slice_index (numbers boundaries.now) (j + 1) - slice_index (numbers boundaries.now) j) / 128
block_width (PerBlock widths) j = slice_index widths.now j

-- the width of the block of a place
abbrev pub width_at : Widths → ℕ → ℕ
width_at widths i = block_width widths (i / 1024)

-- block j has a width: of boundaries, those on both its sides are there
abbrev pub Names : Widths → ℕ → Type 0
Names (Global width) j = Unit {0}
Names (Boundaries boundaries) j = j + 1 < length boundaries.now.slots
Names (PerBlock widths) j = j < length widths.now

-- this many blocks have a width
abbrev pub NamesAll : Widths → ℕ → Type 0
NamesAll widths count = (j : ℕ) → j < count → Names widths j
