use Rattle.fl_types.proofs.BitLists.{bit_cleared, bit_left}
use Rattle.fl_types.proofs.bits.without_bit.Goals as goal

pub returns-clause-here : goal.returns-clause-here
returns-clause-here c = bit_cleared c.args.word c.args.at c.requires

pub returns-clause-others : goal.returns-clause-others
returns-clause-others c j h away = bit_left c.args.word c.args.at j c.requires h away
