use Rattle.fl_file.proofs.FileAgain.{file_again}
use Rattle.fl_file.proofs.laws.file_is_read.Goals as goal

pub returns : goal.returns
returns c = file_again
