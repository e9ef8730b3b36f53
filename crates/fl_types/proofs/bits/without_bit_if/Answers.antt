use Rattle.fl_types.proofs.ClearedBits.{cleared_if, left_if}
use Rattle.fl_types.proofs.bits.without_bit_if.Goals as goal

pub returns-clause-here : goal.returns-clause-here
returns-clause-here c = cleared_if c.args.word c.args.at c.from.result c.args.on c.requires c.from.ensures

pub returns-clause-others : goal.returns-clause-others
returns-clause-others c j h away = left_if c.args.word c.args.at j c.from.result c.args.on c.requires h away c.from.ensures
