use Rattle.std.proofs.Common.{ℕ, pos, get_or, map, rules}
use Rattle.fl_codec.specs.Deltas.{block_integer}
use Rattle.fl_codec.proofs.SummedPatterns.{integer_read}
use Rattle.fl_bitpacking.specs.RangeTests.{TestsPatterns, passes}
use Rattle.fl_bitpacking.proofs.BlockAnswers.{pattern_tested}
use Rattle.fl_bitpacking.proofs.compute.compare.blocks.test_deltas.Goals as goal

pub test_delta_patterns-requires : goal.test_delta_patterns-requires
test_delta_patterns-requires g c =
    let tests : TestsPatterns g.T.NativePType.PTYPE c.args.range c.on_patterns-test.result = rw c.PTYPE.ensures at c.on_patterns-test.ensures in
    (search rules, (rw g.met.T.PhysicalPType.width_law tests.low, (rw g.met.T.PhysicalPType.width_law tests.span, (c.requires.bases, c.requires.deltas))))

pub returns-clause-bits : goal.returns-clause-bits
returns-clause-bits g c i h =
    let value = g.T.Number.value in
    let ptype = g.T.NativePType.PTYPE in
    let base = λ (k : ℕ). get_or (map value c.args.bases.now) k (pos 0) in
    let delta = λ (k : ℕ). get_or (map value c.args.deltas.now) k (pos 0) in
    let tests : TestsPatterns ptype c.args.range c.on_patterns-test.result = rw c.PTYPE.ensures at c.on_patterns-test.ensures in
    pattern_tested (passes c.args.range) ptype g.T.Physical.FastLanes.T c.on_patterns-test.result.low c.on_patterns-test.result.span c.on_patterns-test.result.negated (block_integer ptype base delta 0 i) _
    g.met.T.PhysicalPType.width_law tests.same (integer_read ptype base delta 0 i) (c.test_delta_patterns.ensures.bits i h)
