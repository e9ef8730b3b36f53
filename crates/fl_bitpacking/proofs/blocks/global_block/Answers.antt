use Rattle.std.proofs.Common.{◌≡◌, ◌+◌, ◌*◌, arith}
use Rattle.fl_bitpacking.proofs.blocks.global_block.Goals as goal

pub block_at-requires : goal.block_at-requires
block_at-requires c =
    let room = c.requires in
    let end : 128 * c.args.width * (c.args.j + 1) ≡ 128 * c.args.width * c.args.j + 128 * c.args.width = grind arith in
    omega arith
