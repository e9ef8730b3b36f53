use Rattle.std.proofs.Common.{◌∙◌}
use Rattle.fl_patches.proofs.Parts.{ok_same}
use Rattle.fl_array.proofs.ToBlockedLaws.{over_deltas}
use Rattle.fl_array.proofs.delta.DeltaArray.over_blocked.Goals as goal

pub returns : goal.returns
returns c =
    over_deltas c.args.self.now c.args.bases c.args.deltas c.in_ok-validity.validity _ _ c.try_new.result c.prove_well_formed.ensures c.requires.bases c.requires.deltas (ok_same _ _ c.in_ok-validity.ensures ∙ c.validity.ensures) c.offset.ensures c.len.ensures.len c.try_new.ensures
