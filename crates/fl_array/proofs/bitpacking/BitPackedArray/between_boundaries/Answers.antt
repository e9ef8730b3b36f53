use Rattle.std.proofs.Common.{ap, ◌∙◌}
use Rattle.fl_bitpacking.specs.BlockedWidths.{width_per_block}
use Rattle.fl_bitpacking.specs.Blocks.{boundary_array}
use Rattle.fl_bitpacking.specs.Columns.{BitPackedParts}
use Rattle.fl_patches.proofs.Parts.{ok_same}
use Rattle.fl_array.proofs.ToBlockedLaws.{between_boundaries}
use Rattle.fl_array.proofs.bitpacking.BitPackedArray.between_boundaries.Goals as goal

pub with_widths-requires : goal.with_widths-requires
with_widths-requires c =
    let made = ok_same _ _ c.in_ok-boundaries.ensures.boundaries ∙ ap (λ (p : BitPackedParts). boundary_array (width_per_block p c.args.width)) c.packed_data.ensures in
    between_boundaries c.args.self.now c.args.width _ _ c.prove_well_formed.ensures c.requires made c.into_array.ensures
