use Rattle.std.proofs.Common.{◌+◌, ◌∙◌, arith}
use Rattle.fl_bitpacking.proofs.ComparedLaws.{bit_from, length-bits_from}
use Rattle.fl_bitpacking.proofs.compute.compare.test_items.Goals as goal

pub returns-clause-long : goal.returns-clause-long
returns-clause-long c = rw c.from_words.ensures (length-bits_from c.in_ok-words.words.items c.args.blocks.offset c.args.blocks.len)

pub returns-clause-bits : goal.returns-clause-bits
returns-clause-bits c i h =
    rw c.from_words.ensures (bit_from c.in_ok-words.words.items c.args.blocks.offset c.args.blocks.len i h ∙ c.in_ok-words.ensures.bits (c.args.blocks.offset + i) (omega arith))
