use Rattle.fl_patches.proofs.Counted.{patches_counted}
use Rattle.fl_patches.proofs.laws.blocked_patches_are_counted.Goals as goal

pub returns : goal.returns
returns c = patches_counted _ _ c.args._array.now
