use Rattle.std.proofs.Common.{◌+◌, ◌∙◌, ap, min}
use Rattle.fl_bitpacking.proofs.Natives.{block_item_is, item_words}
use Rattle.fl_bitpacking.proofs.bitpack_decompress.unpack_block_item.Goals as goal

pub returns-clause-item : goal.returns-clause-item
returns-clause-item g c = block_item_is g.T.NativePType.PTYPE g.T.Physical.FastLanes.T g.T.Physical.FastLanes.LANES c.args.width c.args.block.now c.args.index _ _ g.met.T.Physical.FastLanes.shape g.met.T.PhysicalPType.width_law c.unpack_single.ensures.bits c.from_physical.ensures

pub unpack_single-requires-clause-width : goal.unpack_single-requires-clause-width
unpack_single-requires-clause-width g c = rw g.met.T.PhysicalPType.width_law c.requires.width

pub returns-clause-words : goal.returns-clause-words
returns-clause-words g c h =
    c.unpack_single.ensures.words h
    ∙ ap (λ n. min (c.args.work.now.words + n) 18446744073709551615) (item_words g.T.NativePType.PTYPE g.T.Physical.FastLanes.T g.T.Physical.FastLanes.LANES c.args.width c.args.index g.met.T.Physical.FastLanes.shape g.met.T.PhysicalPType.width_law)
