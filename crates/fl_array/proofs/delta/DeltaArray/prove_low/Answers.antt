use Rattle.fl_array.proofs.DeltaLaws.{sound_deltas}
use Rattle.fl_array.proofs.delta.DeltaArray.prove_low.Goals as goal

pub returns : goal.returns
returns c = (sound_deltas c.args.self.now c.prove_well_formed.ensures).low
