use Rattle.std.proofs.Common.{◌≡◌, ℕ, ◌+◌, ◌-◌, ◌*◌, ◌∙◌, ap, arith}
use Rattle.fl_bitpacking.specs.Blocks.{blocks_of, item_of_blocks}
use Rattle.fl_bitpacking.proofs.BlockSums.{item_plus_none}
use Rattle.fl_bitpacking.proofs.compute.filter.Filtering.read_block.Goals as goal

pub returns-else-count-unpack_threshold-clause-items : goal.returns-else-count-unpack_threshold-clause-items
returns-else-count-unpack_threshold-clause-items g c i h set =
    let f = c.args.self in
    let ptype = g.T.NativePType.PTYPE in
    let from = c.requires.from in
    let place : f.blocks.offset + (1024 * c.args.j - f.blocks.offset + i) ≡ f.blocks.offset + (c.args.from + i) = omega arith in
    c.decode_block.ensures.items i h
    ∙ item_plus_none ptype (blocks_of f.blocks.widths) c.args.reader.now.bytes (f.blocks.offset + (1024 * c.args.j - f.blocks.offset + i))
    ∙ ap (λ (p : ℕ). item_of_blocks ptype (blocks_of f.blocks.widths) c.args.reader.now.bytes p) place
