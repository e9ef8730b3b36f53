use Rattle.fl_patches.proofs.Marked.{both_have}
use Rattle.fl_patches.proofs.gathering.both.Goals as goal

pub returns : goal.returns
returns c = both_have c.args.x c.args.y
