use Rattle.fl_file.proofs.FileAgain.{ends_aligned}
use Rattle.fl_file.proofs.laws.ends_aligned.Goals as goal

pub returns : goal.returns
returns c = ends_aligned
