use Rattle.std.proofs.Common.{◌≡◌, ◌∙◌, sym}
use Rattle.fl_patches.proofs.Parts.{ok_same}
use Rattle.fl_column.specs.Columns.{column_of_constant, column_of_primitive}
use Rattle.fl_array.specs.BitPackedArrays.{BlockBoundaries}
use Rattle.fl_array.specs.PrimitiveCows.{primitive_of_cow}
use Rattle.fl_array.specs.Trees.{column}
use Rattle.fl_array.proofs.BlockWidths.{held_boundaries, held_constant}
use Rattle.fl_array.proofs.+decoding.Goals as goal

pub bitpacking::BitPackedArray::widths-returns-in-Some-clause-widths : goal.bitpacking::BitPackedArray::widths-returns-in-Some-clause-widths
bitpacking::BitPackedArray::widths-returns-in-Some-clause-widths t c =
    let a = c.args.self.now in
    let b = c.in-Blocked.boundaries.now in
    let same : BlockBoundaries b ≡ a.widths = rw c.in-Blocked.is at c.bit_widths.ensures.widths in
    let constant : column b ≡ column_of_constant c.in-Some.field-0.now = rw c.in-Some.is at c.as_constant.ensures.column in
    held_constant a b c.in-Some.field-0.now same constant

pub bitpacking::BitPackedArray::widths-returns-in_ok-plain-in-None-clause-widths : goal.bitpacking::BitPackedArray::widths-returns-in_ok-plain-in-None-clause-widths
bitpacking::BitPackedArray::widths-returns-in_ok-plain-in-None-clause-widths t c =
    let a = c.args.self.now in
    let b = c.in-Blocked.boundaries.now in
    let cow = c.in_ok-plain-in-None.plain in
    let same : BlockBoundaries b ≡ a.widths = rw c.in-Blocked.is at c.bit_widths.ensures.widths in
    let plain : column_of_primitive (primitive_of_cow cow) ≡ column b = ok_same _ _ (sym c.prove_boundaries_are_integers.ensures ∙ c.in_ok-plain-in-None.ensures) in
    held_boundaries a b cow c.prove_well_formed.ensures same plain
