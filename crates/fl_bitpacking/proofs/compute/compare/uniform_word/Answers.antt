use Rattle.std.proofs.Common.{◌∙◌, sym}
use Rattle.fl_bitpacking.proofs.ComparedLaws.{all_ones, no_ones}
use Rattle.fl_bitpacking.proofs.compute.compare.uniform_word.Goals as goal

pub returns-then-on : goal.returns-then-on
returns-then-on c j h = all_ones j h ∙ sym c.if-on.true

pub returns-else-on : goal.returns-else-on
returns-else-on c j h = no_ones j ∙ sym c.if-on.false
