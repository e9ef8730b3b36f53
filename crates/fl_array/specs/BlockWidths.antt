-- The widths of an array's blocks, as they are held and as the blocks are read by them.
use Rattle.std.specs.Prelude.{◌≡◌, false, true}
use Rattle.fl_patches.specs.declared.widths.Widths.{Widths}
use Rattle.fl_patches.specs.declared.widths.Widths.TheVariants.{Global, Boundaries, PerBlock}
use Rattle.fl_bitpacking.specs.Blocks.{blocks_of}
use Rattle.fl_bitpacking.specs.ReadWidths.{AreWidthsOf, are_read_by_runs}
use Rattle.fl_array.specs.declared.bitpacking.block_widths.BlockWidths.{BlockWidths}
use Rattle.fl_array.specs.declared.bitpacking.block_widths.BlockWidths.TheVariants as held
use Rattle.fl_array.specs.BitPackedArrays.{BitPackedArrayParts, blocks_of_widths, is_global}
use Rattle.fl_array.specs.PrimitiveCows.{primitive_of_cow}

-- these widths are the ones that are held
abbrev pub IsViewOf : BlockWidths → Widths → Type 0
IsViewOf (held.Global width) (Global w) = w ≡ width
IsViewOf (held.Global width) (Boundaries boundaries) = ⊥
IsViewOf (held.Global width) (PerBlock widths) = ⊥
IsViewOf (held.Boundaries cow) (Global w) = ⊥
IsViewOf (held.Boundaries cow) (Boundaries boundaries) = boundaries.now ≡ primitive_of_cow cow
IsViewOf (held.Boundaries cow) (PerBlock widths) = ⊥

-- an array's blocks are read by these widths: they are widths of its parts, by which the blocks lie where the array has them, and by which those that have widths of their own are read by runs
pub record AreReadBy (a : BitPackedArrayParts) (widths : Widths) : Type 0 where
  pub sound : AreWidthsOf a.parts widths
  pub same : blocks_of widths ≡ blocks_of_widths a.widths
  pub own : is_global a.widths ≡ false → are_read_by_runs widths ≡ true

-- the widths that are held are those by which the array's blocks are read
abbrev pub AreBlockWidths : BitPackedArrayParts → BlockWidths → Type 0
AreBlockWidths a held = (widths : Widths) → IsViewOf held widths → AreReadBy a widths
