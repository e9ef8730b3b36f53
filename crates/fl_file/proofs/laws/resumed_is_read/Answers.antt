use Rattle.fl_file.proofs.FileAgain.{resumed_again}
use Rattle.fl_file.proofs.laws.resumed_is_read.Goals as goal

pub returns : goal.returns
returns c = resumed_again
