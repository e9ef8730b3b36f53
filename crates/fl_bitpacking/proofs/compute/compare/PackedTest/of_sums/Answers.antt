use Rattle.std.proofs.Common.{◌+ℤ◌, ◌∙◌, ap}
use Rattle.fl_types.specs.Integers.{pattern_of, wrap}
use Rattle.fl_types.specs.Values.{integer_of}
use Rattle.fl_bitpacking.specs.RangeTests.{passes}
use Rattle.fl_bitpacking.proofs.RangeLaws.{more_sums}
use Rattle.fl_bitpacking.proofs.compute.compare.PackedTest.of_sums.Goals as goal

pub returns-clause-test : goal.returns-clause-test
returns-clause-test c =
    let test = c.args.self in
    let r = integer_of c.args.reference in
    let typed = c.requires.typed in
    record {
      typed = rw (← typed) c.of_sums-range.ensures.typed;
      patterns = more_sums test.ptype test.range c.of_sums-range.result r c.pattern.result test.patterns c.of_sums-patterns.result (c.pattern.ensures ∙ ap (λ t. pattern_of t r) typed) c.of_sums-patterns.ensures
          (λ z. c.of_sums-range.ensures.test z ∙ ap (λ t. passes test.range (wrap t (z +ℤ r))) typed) c.requires.test.patterns;
    }

pub of_sums-range-requires : goal.of_sums-range-requires
of_sums-range-requires c = rw c.requires.typed c.requires.test.typed
