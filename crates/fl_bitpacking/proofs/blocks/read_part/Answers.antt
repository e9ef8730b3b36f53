use Rattle.std.proofs.Common.{◌≡◌, ◌+◌, arith}
use Rattle.fl_bitpacking.proofs.blocks.read_part.Goals as goal

pub returns-in-Some-clause-items : goal.returns-in-Some-clause-items
returns-in-Some-clause-items g c i h =
    let whole = c.in-Some.ensures.cases.long in
    let within = c.requires.within in
    let first : c.args.low + i ≡ i = omega arith in
    rw first (c.decode_block.ensures.items i (omega arith))
