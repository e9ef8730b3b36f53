use Rattle.fl_bitpacking.proofs.GatheredPatches.{global_kept}
use Rattle.fl_bitpacking.proofs.laws.gathered_patches_are_kept.Goals as goal

pub returns : goal.returns
returns c width = global_kept c.args.array.now width c.validity-validity.ensures.covers
