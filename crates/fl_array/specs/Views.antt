-- What accessors show.
use Rattle.std.specs.Prelude.{◌<◌, ◌*◌, ℕ, Bool, true, false}
use Rattle.fl_types.specs.Values.{scalar_parts}
use Rattle.fl_array.specs.declared.bitpacking.BitWidthsView.{BitWidthsView}
use Rattle.fl_array.specs.declared.bitpacking.BitWidthsView.TheVariants.{Global, Blocked}
use Rattle.fl_array.specs.declared.bitpacking.BitWidths.{BitWidths}
use Rattle.fl_array.specs.declared.bitpacking.BitWidths.TheVariants as owned
use Rattle.fl_array.specs.declared.for_.FoRReferences.{FoRReferences}
use Rattle.fl_array.specs.declared.for_.FoRReferences.TheVariants as frames
use Rattle.fl_array.specs.BitPackedArrays.{BitWidthsParts, BlockBoundaries, GlobalWidth}
use Rattle.fl_array.specs.FoRArrays.{ChunkReferences, FoRReferencesParts, GlobalReference}
use Rattle.fl_array.specs.Trees.{height}

-- the widths that are shown
abbrev pub widths_of_view : BitWidthsView → BitWidthsParts
widths_of_view (Global width) = GlobalWidth width
widths_of_view (Blocked boundaries) = BlockBoundaries boundaries.now

-- the widths that are owned
abbrev pub widths_of_owned : BitWidths → BitWidthsParts
widths_of_owned (owned.Global width) = GlobalWidth width
widths_of_owned (owned.Blocked boundaries) = BlockBoundaries boundaries

-- the boundaries, where there are some, have a lower height
abbrev pub HasLowerBoundaries : BitWidthsView → ℕ → Type 0
HasLowerBoundaries (Global width) n = Unit {0}
HasLowerBoundaries (Blocked boundaries) n = height boundaries.now < n

-- the references that are shown, beside an offset
abbrev pub references_of_view : FoRReferences → ℕ → FoRReferencesParts
references_of_view (frames.Global reference) offset = GlobalReference (scalar_parts reference.now)
references_of_view (frames.Blocked references) offset = ChunkReferences references.now offset

-- all items have one reference
abbrev pub is_global : FoRReferences → Bool
is_global (frames.Global reference) = true
is_global (frames.Blocked references) = false

-- the references of the chunks, where there are some, have a lower height
abbrev pub HasLowerReferences : FoRReferences → ℕ → Type 0
HasLowerReferences (frames.Global reference) n = Unit {0}
HasLowerReferences (frames.Blocked references) n = height references.now < n

-- the boundaries, where there are some, have a smaller size
abbrev pub HasSmallerBoundaries : BitWidthsView → ℕ → Type 0
HasSmallerBoundaries (Global width) n = Unit {0}
HasSmallerBoundaries (Blocked boundaries) n = 2 * height boundaries.now < n

-- the references of the chunks, where there are some, have a smaller size
abbrev pub HasSmallerReferences : FoRReferences → ℕ → Type 0
HasSmallerReferences (frames.Global reference) n = Unit {0}
HasSmallerReferences (frames.Blocked references) n = 2 * height references.now < n
