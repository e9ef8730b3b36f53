use Rattle.fl_bitpacking.proofs.GatheredPatches.{blocked_kept}
use Rattle.fl_bitpacking.proofs.laws.gathered_blocked_patches_are_kept.Goals as goal

pub returns : goal.returns
returns c widths count = blocked_kept c.args.array.now widths c.validity-validity.ensures.covers count
