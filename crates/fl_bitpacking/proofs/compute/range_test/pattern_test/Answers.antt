use Rattle.std.proofs.Common.{arith}
use Rattle.std.specs.Int.{w128}
use Rattle.std.proofs.lemmas.Int.{ints, to_z-of_z}
use Rattle.fl_bitpacking.proofs.RangeLaws.{end_within, ends_near, range_none, range_some}
use Rattle.fl_bitpacking.proofs.compute.range_test.pattern_test.Goals as goal

pub distance-requires : goal.distance-requires
distance-requires c =
    rw (to_z-of_z w128 c.args.lower c.ranges.lower, to_z-of_z w128 c.args.upper c.ranges.upper)
    (ends_near c.args.ptype c.args.lower c.args.upper c.requires.low c.requires.high)

pub pattern_of_integer-requires-clause-low : goal.pattern_of_integer-requires-clause-low
pattern_of_integer-requires-clause-low c =
    let long = rw (to_z-of_z w128 c.args.lower c.ranges.lower, to_z-of_z w128 c.args.upper c.ranges.upper) at c.in-Some.ensures.above in
    rw (to_z-of_z w128 c.args.lower c.ranges.lower)
    (end_within c.args.ptype c.greatest_pattern-greatest.result c.args.lower c.args.upper c.greatest_pattern-greatest.ensures c.requires.low (omega (arith, ints)) c.requires.high).0

pub pattern_of_integer-requires-clause-high : goal.pattern_of_integer-requires-clause-high
pattern_of_integer-requires-clause-high c =
    let long = rw (to_z-of_z w128 c.args.lower c.ranges.lower, to_z-of_z w128 c.args.upper c.ranges.upper) at c.in-Some.ensures.above in
    rw (to_z-of_z w128 c.args.lower c.ranges.lower)
    (end_within c.args.ptype c.greatest_pattern-greatest.result c.args.lower c.args.upper c.greatest_pattern-greatest.ensures c.requires.low (omega (arith, ints)) c.requires.high).1

pub returns-in-Some : goal.returns-in-Some
returns-in-Some c =
    let long = rw (to_z-of_z w128 c.args.lower c.ranges.lower, to_z-of_z w128 c.args.upper c.ranges.upper) at c.in-Some.ensures.above in
    let same = rw (to_z-of_z w128 c.args.lower c.ranges.lower) at c.pattern_of_integer.ensures.same in
    range_some c.args.ptype c.pattern_of_integer.result c.in-Some.span c.greatest_pattern-greatest.result c.args.lower c.args.upper c.args.negated c.requires.low c.requires.high c.greatest_pattern-greatest.ensures c.pattern_of_integer.ensures.below same long

pub returns-in-None : goal.returns-in-None
returns-in-None c =
    let out = rw (to_z-of_z w128 c.args.lower c.ranges.lower, to_z-of_z w128 c.args.upper c.ranges.upper) at c.in-None.ensures.below in
    range_none c.args.ptype c.greatest_pattern-greatest.result c.args.lower c.args.upper c.args.negated c.greatest_pattern-greatest.ensures out
