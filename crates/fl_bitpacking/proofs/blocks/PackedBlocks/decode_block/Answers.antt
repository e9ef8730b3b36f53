use Rattle.std.proofs.Common.{◌+◌, ◌-◌, ◌*◌, ◌∙◌, refl, sym, arith, rules}
use Rattle.fl_bitpacking.specs.Blocks.{blocks_of}
use Rattle.fl_bitpacking.proofs.Bounds.{width_named}
use Rattle.fl_bitpacking.proofs.BlockSums.{decoded_read}
use Rattle.fl_bitpacking.proofs.blocks.PackedBlocks.decode_block.Goals as goal

pub of_block-width-requires : goal.of_block-width-requires
of_block-width-requires g c = c.requires.readable.names c.args.j c.requires.block

pub decode_part-requires : goal.decode_part-requires
decode_part-requires g c =
    let narrow = c.requires.readable.within.narrow c.args.j c.requires.block in
    let width = c.of_block-width.ensures ∙ sym (width_named c.args.self.widths c.args.j (c.requires.readable.names c.args.j c.requires.block)) in
    let inside = c.requires.readable.offset in
    let room = c.requires.room in
    let low = c.saturating_sub-low.ensures in
    let within = c.requires.readable.within.room c.args.j c.requires.block in
    let start = c.requires.start in
    (search rules, (omega arith, (omega arith, omega arith)))

pub returns-clause-items : goal.returns-clause-items
returns-clause-items g c i h =
    let blocks = blocks_of c.args.self.widths in
    let offset = c.args.self.offset in
    let inside = c.requires.readable.offset in
    let room = c.requires.room in
    let low = c.saturating_sub-low.ensures in
    let width = c.of_block-width.ensures ∙ sym (width_named c.args.self.widths c.args.j (c.requires.readable.names c.args.j c.requires.block)) in
    decoded_read (g.D.BlockDecoder.item c.args.decoder.now) g.T.NativePType.PTYPE blocks c.args.reader.now.bytes _ c.args.j c.args.start c.of_block-width.result (c.saturating_sub-low.result + i) (offset + (1024 * c.args.j - offset + i)) _ c.requires.start width refl (omega arith) (omega arith) (c.decode_part.ensures.items i h)

pub returns-clause-next : goal.returns-clause-next
returns-clause-next g c =
    let next = c.requires.readable.joined.next c.args.j c.requires.block in
    let start = c.requires.start in
    let width = c.of_block-width.ensures ∙ sym (width_named c.args.self.widths c.args.j (c.requires.readable.names c.args.j c.requires.block)) in
    omega arith

pub overflow_mul-result : goal.overflow_mul-result
overflow_mul-result g c =
    let room = c.requires.readable.within.room c.args.j c.requires.block in
    let start = c.requires.start in
    let size = c.size-size.ensures in
    let width = c.of_block-width.ensures ∙ sym (width_named c.args.self.widths c.args.j (c.requires.readable.names c.args.j c.requires.block)) in
    omega arith

pub overflow_add-result : goal.overflow_add-result
overflow_add-result g c =
    let room = c.requires.readable.within.room c.args.j c.requires.block in
    let start = c.requires.start in
    let size = c.size-size.ensures in
    let width = c.of_block-width.ensures ∙ sym (width_named c.args.self.widths c.args.j (c.requires.readable.names c.args.j c.requires.block)) in
    omega arith
