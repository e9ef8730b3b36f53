use Rattle.std.proofs.Common.{arith, ◌∙◌, ◌+◌}
use Rattle.fl_types.proofs.AddedBits.{joined_low, joined_high}
use Rattle.fl_types.proofs.bits.joined.Goals as goal

pub returns-clause-low : goal.returns-clause-low
returns-clause-low c j h = joined_low c.low_bits.result c.args.word c.args.at j c.requires h ∙ c.low_bits.ensures.low j h

pub returns-clause-high : goal.returns-clause-high
returns-clause-high c j h = joined_high c.low_bits.result c.args.word c.args.at j h (c.low_bits.ensures.clear (c.args.at + j) (omega arith))
