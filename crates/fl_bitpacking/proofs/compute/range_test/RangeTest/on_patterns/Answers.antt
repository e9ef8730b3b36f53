use Rattle.std.specs.Int.{w128}
use Rattle.std.specs.Prelude.{FitsSigned}
use Rattle.std.proofs.Common.{rules}
use Rattle.std.proofs.lemmas.Int.{to_z-of_z}
use Rattle.fl_bitpacking.proofs.RangeLaws.{tests_plain, tests_sums, tests_type}
use Rattle.fl_bitpacking.proofs.compute.range_test.RangeTest.on_patterns.Goals as goal

pub returns-in-Some : goal.returns-in-Some
returns-in-Some c =
    let low : FitsSigned w128 c.ends_of_type-lower.result.0 = search rules in
    let high : FitsSigned w128 c.ends_of_type-lower.result.1 = search rules in
    let tests = rw (to_z-of_z w128 c.ends_of_type-lower.result.0 low, to_z-of_z w128 c.ends_of_type-lower.result.1 high) at c.pattern_test-patterns.ensures in
    tests_sums c.args.ptype c.args.self c.in-Some.reference c.pattern.result c.pattern_test-patterns.result c.of_sums.result c.in-Some.is (rw c.in-Some.is at c.requires) c.pattern.ensures c.of_sums.ensures
    (tests_type c.args.ptype c.args.self c.ends_of_type-lower.result.0 c.ends_of_type-lower.result.1 c.pattern_test-patterns.result tests c.ends_of_type-lower.ensures.inside)

pub returns-in-None : goal.returns-in-None
returns-in-None c =
    let low : FitsSigned w128 c.ends_of_type-lower.result.0 = search rules in
    let high : FitsSigned w128 c.ends_of_type-lower.result.1 = search rules in
    let tests = rw (to_z-of_z w128 c.ends_of_type-lower.result.0 low, to_z-of_z w128 c.ends_of_type-lower.result.1 high) at c.pattern_test-patterns.ensures in
    tests_plain c.args.ptype c.args.self c.pattern_test-patterns.result c.in-None.is (tests_type c.args.ptype c.args.self c.ends_of_type-lower.result.0 c.ends_of_type-lower.result.1 c.pattern_test-patterns.result tests c.ends_of_type-lower.ensures.inside)
