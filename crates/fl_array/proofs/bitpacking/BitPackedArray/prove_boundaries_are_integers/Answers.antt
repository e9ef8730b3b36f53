use Rattle.fl_array.proofs.BlockedLaws.{boundaries_integers}
use Rattle.fl_array.proofs.bitpacking.BitPackedArray.prove_boundaries_are_integers.Goals as goal

pub returns : goal.returns
returns c = boundaries_integers c.args.self.now c.args.boundaries.now c.prove_well_formed.ensures c.requires
