use Rattle.std.proofs.Common.{◌+◌, ◌*◌, refl}
use Rattle.fl_bitpacking.specs.Blocks.{global_blocks}
use Rattle.fl_bitpacking.proofs.Joined.{item_read}
use Rattle.fl_bitpacking.proofs.unpack_iter.cut_blocks.unpack_at.Goals as goal

pub returns-clause-items : goal.returns-clause-items
returns-clause-items g c i h =
    let width = c.args.bit_width in
    let j = c.args.j in
    item_read g.T.NativePType.PTYPE (global_blocks width) c.args.packed.now c.global_block-block.result.now j _ width i (1024 * j + i) _ refl refl c.global_block-block.ensures.bytes h refl (c.unpack_chunk.ensures.items i h)
