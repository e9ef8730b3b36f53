use Rattle.fl_encode.proofs.GrammarStops.{first_wrong}
use Rattle.fl_encode.proofs.laws.wrong_byte_is_the_first.Goals as goal

pub returns : goal.returns
returns c = first_wrong
