-- Widths by which the blocks of parts are read.
use Rattle.std.proofs.Common.{◌≡◌, ◌+◌, ◌∙◌, length, unsigned_abs, arith}
use Rattle.std.proofs.lemmas.List.{length-map}
use Rattle.fl_types.specs.Integers.{bits_of_type}
use Rattle.fl_column.specs.Numbers.{numbers}
use Rattle.fl_patches.specs.declared.widths.Widths.{Widths}
use Rattle.fl_patches.specs.declared.widths.Widths.TheVariants.{Global, Boundaries, PerBlock}
use Rattle.fl_bitpacking.specs.Columns.{BitPackedParts, block_count}
use Rattle.fl_bitpacking.specs.Parts.{AreReadable, Fit, blocks_to_read, parts_of}
use Rattle.fl_bitpacking.specs.ReadWidths.{AreWidthsOf}
use Rattle.fl_bitpacking.specs.Taken.{HasStarts}
use Rattle.fl_bitpacking.specs.declared.bitpack_decompress.PackedColumn.{PackedColumn}
use Rattle.fl_bitpacking.proofs.Joined.{boundary_joined, boundary_within, global_joined, global_within}

-- the blocks of parts can be read by their widths
pub readable : (column : PackedColumn) (widths : Widths) → Fit (parts_of column) → AreWidthsOf (parts_of column) widths → AreReadable (bits_of_type column.ptype) column.packed.now (blocks_to_read column widths)
readable column (Global width) fit of =
    let count = block_count (parts_of column) in
    record {
      offset = fit.offset;
      few = fit.few;
      names = λ j h. tt;
      within = global_within (bits_of_type column.ptype) width count (length column.packed.now) of.0 of.1;
      joined = global_joined width count;
    }
readable column (Boundaries boundaries) fit of =
    let bits = bits_of_type column.ptype in
    let count = block_count (parts_of column) in
    let size = length column.packed.now in
    let all = of.0 in
    let long : length (numbers boundaries.now) ≡ count + 1 = length-map boundaries.now.slots unsigned_abs ∙ of.0 in
    record {
      offset = fit.offset;
      few = fit.few;
      names = λ j h. omega arith;
      within = boundary_within bits count size (numbers boundaries.now) long of.1;
      joined = boundary_joined bits count size (numbers boundaries.now) long of.1;
    }
readable column (PerBlock widths) fit of = absurd of

-- and it is known where each block starts
pub starts : (parts : BitPackedParts) (widths : Widths) → AreWidthsOf parts widths → HasStarts widths
starts parts (Global width) of = tt
starts parts (Boundaries boundaries) of = tt
starts parts (PerBlock widths) of = absurd of
