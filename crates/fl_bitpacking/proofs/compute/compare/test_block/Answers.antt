use Rattle.std.proofs.Common.{◌∙◌, sym}
use Rattle.fl_bitpacking.specs.RangeTests.{passes}
use Rattle.fl_bitpacking.specs.Readings.{bytes_at}
use Rattle.fl_bitpacking.proofs.ComparedLaws.{block_decided, block_tested}
use Rattle.fl_bitpacking.proofs.compute.compare.test_block.Goals as goal

pub returns-then-is_decided-clause-bits : goal.returns-then-is_decided-clause-bits
returns-then-is_decided-clause-bits g c i h =
    block_decided (passes c.args.test.range) c.args.test.ptype c.args.extent.width (bytes_at c.args.extent c.args.reader.now.bytes) i _ (sym c.is_decided.ensures ∙ c.if-is_decided.true) (c.fill.ensures.bits i h ∙ c.is_passed_by_zero.ensures)

pub returns-else-is_decided-clause-bits : goal.returns-else-is_decided-clause-bits
returns-else-is_decided-clause-bits g c i h =
    block_tested (passes c.args.test.range) c.args.test.ptype g.W.FastLanes.T g.W.FastLanes.LANES c.args.extent.width c.args.test.patterns.low c.args.test.patterns.span c.args.test.patterns.negated (bytes_at c.args.extent c.args.reader.now.bytes) i _
    g.met.W.FastLanes.shape c.requires.word (rw c.requires.word c.requires.width) c.requires.test.patterns.same (c.compare_patterns.ensures.bits i h)
