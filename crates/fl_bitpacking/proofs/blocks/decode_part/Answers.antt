use Rattle.std.proofs.Common.{◌≡◌, ◌+◌, ◌∙◌, arith}
use Rattle.fl_bitpacking.proofs.Slices.{value_part}
use Rattle.fl_bitpacking.proofs.blocks.decode_part.Goals as goal

pub returns-in-Some-clause-items : goal.returns-in-Some-clause-items
returns-in-Some-clause-items g c i h =
    let whole = c.in-Some.ensures.cases.long in
    let within = c.requires.within in
    let first : c.args.low + i ≡ i = omega arith in
    rw first (c.decode_block.ensures.items i (omega arith))

pub returns-in-None-clause-items : goal.returns-in-None-clause-items
returns-in-None-clause-items g c i h =
    let within = c.requires.within in
    rw c.copy_from_slice.ensures.after (value_part g.T.Number.value c.decode_block-in-None.new.items c.args.low _ i (omega arith) ∙ c.decode_block-in-None.ensures.items (c.args.low + i) (omega arith))
