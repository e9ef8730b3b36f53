use Rattle.fl_bitpacking.proofs.RangeLaws.{summed_again, summed_first}
use Rattle.fl_bitpacking.proofs.compute.range_test.RangeTest.of_sums.Goals as goal

pub returns-in-Some-clause-test : goal.returns-in-Some-clause-test
returns-in-Some-clause-test c z = summed_again c.args.self c.args.reference c.in-Some.other c.sum-reference.result z c.in-Some.is (rw c.in-Some.is at c.requires) c.sum-reference.ensures.sum c.sum-reference.ensures.typed

pub returns-in-None-clause-test : goal.returns-in-None-clause-test
returns-in-None-clause-test c z = summed_first c.args.self c.args.reference z c.in-None.is
