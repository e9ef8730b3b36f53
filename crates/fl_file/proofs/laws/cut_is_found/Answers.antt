use Rattle.fl_file.proofs.CutAgain.{cut_again}
use Rattle.fl_file.proofs.laws.cut_is_found.Goals as goal

pub returns : goal.returns
returns c = cut_again
