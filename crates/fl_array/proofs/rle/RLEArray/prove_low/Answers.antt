use Rattle.fl_array.proofs.RLELaws.{sound_rle}
use Rattle.fl_array.proofs.rle.RLEArray.prove_low.Goals as goal

pub returns : goal.returns
returns c = (sound_rle c.args.self.now c.prove_well_formed.ensures).types.low
