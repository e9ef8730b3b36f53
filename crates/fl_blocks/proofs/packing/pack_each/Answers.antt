use Rattle.std.proofs.Common.{◌∙◌}
use Rattle.fl_blocks.proofs.Parts.{packed_more}
use Rattle.fl_blocks.proofs.packing.pack_each.Goals as goal

pub loop-k-preserved : goal.loop-k-preserved
loop-k-preserved g c = record {
  whole = c.pack_at.auto.packed ∙ c.loop-k.invariant.whole;
  each = packed_more g.W.FastLanes.pattern g.W.FastLanes.T g.W.FastLanes.LANES c.args.width c.lanes.result c.loop-k.k c.args.blocks.now c.index-blocks-k.result c.loop-k.packed c.pack_at.new.packed
      c.lanes.ensures c.loop-k-test.true c.index-blocks-k.is c.pack_at.ensures.before c.pack_at.ensures.packed c.loop-k.invariant.each;
}
