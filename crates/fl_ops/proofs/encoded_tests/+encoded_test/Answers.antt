use Rattle.std.proofs.Common.{◌∙◌}
use Rattle.fl_types.specs.Values.{scalar_parts}
use Rattle.fl_bitpacking.specs.RangeTests.{passes}
use Rattle.fl_ops.proofs.ComparedLaws.{encoded_type, tested_over, unpacked_over}
use Rattle.fl_ops.proofs.encoded_tests.+encoded_test.Goals as goal

pub test_of_sums-sums-requires-clause-test : goal.test_of_sums-sums-requires-clause-test
test_of_sums-sums-requires-clause-test t c = rw (encoded_type c.in-Some.encoded.now c.args.array.now c.in-Some.ensures.some.1) at c.requires.test

pub returns-in-Some-clause-answers : goal.returns-in-Some-clause-answers
returns-in-Some-clause-answers t c =
    (rw c.encoded.ensures.array at c.encoded_test.ensures.answers)
    ∙ tested_over c.in-Some.encoded.now c.args.array.now (scalar_parts c.in-Some.reference) (passes c.args.range) (passes c.test_of_sums-sums.result) c.in-Some.ensures.some.0 c.in-Some.ensures.some.1 c.test_of_sums-sums.ensures.test

pub returns-in-Some-clause-work : goal.returns-in-Some-clause-work
returns-in-Some-clause-work t c work h =
    unpacked_over c.in-Some.encoded.now c.args.array.now (scalar_parts c.in-Some.reference) (passes c.args.range) (passes c.test_of_sums-sums.result) work c.in-Some.ensures.some.0 c.in-Some.ensures.some.1 c.test_of_sums-sums.ensures.test
    ((rw c.encoded.ensures.array at c.encoded_test.ensures.work) work h)
