use Rattle.std.proofs.Common.{◌+◌, ◌%◌, ◌∙◌, ap, arith, map}
use Rattle.fl_bitpacking.specs.Blocks.{value_at}
use Rattle.fl_scan.specs.Membership.{is_one_of}
use Rattle.fl_scan.proofs.one_of.OneOfBlockTest.test_block.Goals as goal

pub returns-else-self-le-MOST_COMPARED-clause-answers : goal.returns-else-self-le-MOST_COMPARED-clause-answers
unfolding value_at
returns-else-self-le-MOST_COMPARED-clause-answers g c i z inside at e =
    c.find_each.ensures.bits ((c.args.reader.now.offset + i) % 1024) (omega arith) ∙ ap (is_one_of (map g.T.Number.value c.args.self.now.list.now)) (c.read_block.ensures i z inside at e)
