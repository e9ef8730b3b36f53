use Rattle.std.proofs.Common.{◌∙◌, sym}
use Rattle.fl_types.proofs.BitLists.{bit_cleared, bit_kept, bit_left, bit_set}
use Rattle.fl_bitpacking.proofs.BlockAnswers.{same_bit}
use Rattle.fl_bitpacking.proofs.compute.compare.single_block.with_bit.Goals as goal

pub returns-then-on-clause-here : goal.returns-then-on-clause-here
returns-then-on-clause-here c = same_bit _ c.args.at ∙ bit_set _ c.args.at c.requires ∙ sym c.if-on.true

pub returns-then-on-clause-others : goal.returns-then-on-clause-others
returns-then-on-clause-others c j low other = same_bit _ j ∙ bit_kept _ c.args.at j c.requires other ∙ bit_left c.args.word c.args.at j c.requires low other ∙ sym (same_bit c.args.word j)

pub returns-else-on-clause-here : goal.returns-else-on-clause-here
returns-else-on-clause-here c = same_bit _ c.args.at ∙ bit_cleared c.args.word c.args.at c.requires ∙ sym c.if-on.false

pub returns-else-on-clause-others : goal.returns-else-on-clause-others
returns-else-on-clause-others c j low other = same_bit _ j ∙ bit_left c.args.word c.args.at j c.requires low other ∙ sym (same_bit c.args.word j)
