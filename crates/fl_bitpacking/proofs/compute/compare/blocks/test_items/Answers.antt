use Rattle.std.proofs.Common.{pos, get_or, map}
use Rattle.fl_types.proofs.Patterns.{read_pattern}
use Rattle.fl_bitpacking.specs.RangeTests.{TestsPatterns, passes}
use Rattle.fl_bitpacking.proofs.BlockAnswers.{pattern_tested}
use Rattle.fl_bitpacking.proofs.compute.compare.blocks.test_items.Goals as goal

pub test_patterns-requires : goal.test_patterns-requires
test_patterns-requires g c =
    let tests : TestsPatterns g.T.NativePType.PTYPE c.args.range c.on_patterns-test.result = rw c.PTYPE.ensures at c.on_patterns-test.ensures in
    record { low = rw g.met.T.PhysicalPType.width_law tests.low; span = rw g.met.T.PhysicalPType.width_law tests.span; block = c.requires.block }

pub returns-clause-bits : goal.returns-clause-bits
returns-clause-bits g c i h =
    let ptype = g.T.NativePType.PTYPE in
    let z = get_or (map g.T.Number.value c.args.items.now) i (pos 0) in
    let tests : TestsPatterns ptype c.args.range c.on_patterns-test.result = rw c.PTYPE.ensures at c.on_patterns-test.ensures in
    pattern_tested (passes c.args.range) ptype g.T.Physical.FastLanes.T c.on_patterns-test.result.low c.on_patterns-test.result.span c.on_patterns-test.result.negated z _
    g.met.T.PhysicalPType.width_law tests.same (read_pattern ptype z (c.test_patterns.ensures.fit i h)) (c.test_patterns.ensures.bits i h)
