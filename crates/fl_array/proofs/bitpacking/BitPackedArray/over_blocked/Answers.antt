use Rattle.fl_array.proofs.ToBlockedLaws.{over_boundaries}
use Rattle.fl_array.proofs.bitpacking.BitPackedArray.over_blocked.Goals as goal

pub with_widths-requires : goal.with_widths-requires
with_widths-requires c = over_boundaries c.args.self.now c.args.boundaries.now c.args.blocked c.prove_well_formed.ensures c.requires.same c.requires.blocked
