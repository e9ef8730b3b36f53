use Rattle.std.proofs.Common.{◌∙◌}
use Rattle.fl_bitpacking.proofs.BlockTestLaws.{passes_plain, passes_sum, passes_the_one}
use Rattle.fl_bitpacking.proofs.compute.compare.block_tests.BlockTests.of_block.Goals as goal

pub returns-in-None-clause-sums : goal.returns-in-None-clause-sums
returns-in-None-clause-sums c z = passes_plain c.args.self c.args.j z c.in-None.is

pub returns-in-Global-clause-sums : goal.returns-in-Global-clause-sums
returns-in-Global-clause-sums c z = c.of_sums.ensures.sums z ∙ passes_the_one c.args.self c.in-Global.reference c.args.j z c.in-Global.is

pub returns-in-PerBlock-clause-sums : goal.returns-in-PerBlock-clause-sums
returns-in-PerBlock-clause-sums c z =
    c.of_sums-in-PerBlock.ensures.sums z ∙ passes_sum c.args.self c.in-PerBlock.references c.args.j z _ c.in-PerBlock.is c.reference_at.ensures.value
