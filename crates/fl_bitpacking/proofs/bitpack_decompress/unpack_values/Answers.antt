use Rattle.std.proofs.Common.{◌≡◌, ◌∙◌, ◌+◌, ◌/◌, ap}
use Rattle.fl_bitpacking.specs.Blocks.{blocks_of}
use Rattle.fl_bitpacking.proofs.Joined.{item_of_none}
use Rattle.fl_bitpacking.proofs.bitpack_decompress.unpack_values.Goals as goal

pub returns-in_ok-items-in-Global-clause-items : goal.returns-in_ok-items-in-Global-clause-items
returns-in_ok-items-in-Global-clause-items g c i h =
    let place = (c.args.blocks.offset + i) / 1024 in
    let none : (blocks_of c.args.blocks.widths).width place ≡ 0 = ap (λ w. (blocks_of w).width place) c.in-Global.is ∙ c.if-width-eq0.true in
    c.in_ok-items-in-Global.ensures.items i h ∙ item_of_none g.T.NativePType.PTYPE (blocks_of c.args.blocks.widths) c.args.reader.now.bytes (c.args.blocks.offset + i) none
