use Rattle.std.proofs.Common.{◌/◌, ◌%◌, refl, arith}
use Rattle.fl_bitpacking.specs.Blocks.{global_blocks}
use Rattle.fl_bitpacking.proofs.Joined.{item_read}
use Rattle.fl_bitpacking.proofs.bitpack_decompress.unpack_single_primitive.Goals as goal

pub returns : goal.returns
returns g c =
    let i = c.args.i in
    item_read g.T.NativePType.PTYPE (global_blocks c.args.width) c.args.packed.now c.global_block-block.result.now (i / 1024) _ c.args.width (i % 1024) i _ refl refl c.global_block-block.ensures.bytes (omega arith) (omega arith) c.unpack_block_item.ensures.item
