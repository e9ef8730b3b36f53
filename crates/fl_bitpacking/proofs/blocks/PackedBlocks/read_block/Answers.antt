use Rattle.std.proofs.Common.{◌+◌, ◌*◌, ◌∙◌, refl, sym, arith}
use Rattle.fl_bitpacking.specs.Blocks.{blocks_of}
use Rattle.fl_bitpacking.proofs.Bounds.{width_named}
use Rattle.fl_bitpacking.proofs.BlockSums.{decoded_read}
use Rattle.fl_bitpacking.proofs.blocks.PackedBlocks.read_block.Goals as goal

pub of_block-width-requires : goal.of_block-width-requires
of_block-width-requires g c = c.requires.readable.names c.args.j c.requires.block

pub read_part-requires : goal.read_part-requires
read_part-requires g c =
    let narrow = c.requires.readable.within.narrow c.args.j c.requires.block in
    let width = c.of_block-width.ensures ∙ sym (width_named c.args.self.widths c.args.j (c.requires.readable.names c.args.j c.requires.block)) in
    let room = c.requires.readable.within.room c.args.j c.requires.block in
    let start = c.block_start-start.ensures in
    record {
      width = omega arith;
      room = omega arith;
      within = c.requires.within;
    }

pub returns-clause-items : goal.returns-clause-items
returns-clause-items g c i h =
    let blocks = blocks_of c.args.self.widths in
    let within = c.requires.within in
    let width = c.of_block-width.ensures ∙ sym (width_named c.args.self.widths c.args.j (c.requires.readable.names c.args.j c.requires.block)) in
    decoded_read (g.D.BlockDecoder.item c.args.decoder.now) g.T.NativePType.PTYPE blocks c.args.reader.now.bytes _ c.args.j c.block_start-start.result c.of_block-width.result (c.args.low + i) (1024 * c.args.j + c.args.low + i) _ c.block_start-start.ensures width refl (omega arith) (omega arith) (c.read_part.ensures.items i h)
