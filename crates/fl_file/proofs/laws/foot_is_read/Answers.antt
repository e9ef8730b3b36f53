use Rattle.fl_file.proofs.FootAgain.{foot_again}
use Rattle.fl_file.proofs.laws.foot_is_read.Goals as goal

pub returns : goal.returns
returns c = foot_again
