use Rattle.std.proofs.Common.{◌+◌, ◌%◌, ◌∙◌, ap, arith}
use Rattle.fl_bitpacking.specs.Blocks.{value_at}
use Rattle.fl_bitpacking.specs.RangeTests.{passes}
use Rattle.fl_array.proofs.reader.Reader.test_read.Goals as goal

pub returns-clause-answers : goal.returns-clause-answers
unfolding value_at
returns-clause-answers g c i z inside at e =
    c.test_items.ensures.bits ((c.args.self.now.offset + i) % 1024) (omega arith) ∙ ap (passes c.args.range) (c.read_positions.ensures i z inside at e)
