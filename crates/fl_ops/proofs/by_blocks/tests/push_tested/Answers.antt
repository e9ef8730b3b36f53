use Rattle.fl_bitpacking.specs.RangeTests.{passes}
use Rattle.fl_ops.proofs.TestedLists.{answered_more}
use Rattle.fl_ops.proofs.by_blocks.tests.push_tested.Goals as goal

pub returns : goal.returns
returns g c = answered_more (passes c.args.range) c.args.words.now.items c.extend_from_slice.new.self.items _ c.args.j c.args.reader.now c.in_ok-extend_from_slice.ensures.items c.test_block.ensures.whole c.test_block.ensures.answers c.requires.begun
