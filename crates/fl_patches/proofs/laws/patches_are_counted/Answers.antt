use Rattle.fl_patches.proofs.Counted.{global_counted}
use Rattle.fl_patches.proofs.laws.patches_are_counted.Goals as goal

pub returns : goal.returns
returns c = λ width. global_counted _ width c.args._array.now
