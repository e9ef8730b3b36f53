use Rattle.std.proofs.Common.{arith}
use Rattle.fastlanes.specs.Layout.{pattern_at, segment_row, segment_lane}
use Rattle.fastlanes.specs.Delta.{delta_item, item_place, summed_item}
use Rattle.fastlanes.proofs.Bijection.{segment_placed}
use Rattle.fastlanes.proofs.RowWrites.{groups_more, whole_eights}
use Rattle.fastlanes.proofs.deltas.items.undelta_to_items.Goals as goal

pub loop-g-preserved : goal.loop-g-preserved
loop-g-preserved g c = record {
  written = groups_more g.W.FastLanes.T g.W.FastLanes.LANES item_place (summed_item g.W.FastLanes.T (pattern_at g.W.FastLanes.pattern c.args.bases.now) (pattern_at g.W.FastLanes.pattern c.args.deltas.now)) c.loop-g.g
      (pattern_at g.W.FastLanes.pattern c.loop-g.items) (pattern_at g.W.FastLanes.pattern c.undelta_group.new.items) (omega arith) c.undelta_group.ensures c.loop-g.invariant.written;
}

pub returns-clause-items : goal.returns-clause-items
unfolding delta_item
returns-clause-items g c i h =
    let eights = whole_eights g.W.FastLanes.T g.W.FastLanes.LANES g.met.W.FastLanes.shape in
    let there = segment_placed g.W.FastLanes.T g.W.FastLanes.LANES i g.met.W.FastLanes.shape h in
    rw there.0 at (c.loop-g.invariant.written (segment_row g.W.FastLanes.T i) (segment_lane g.W.FastLanes.T i) there.1 (omega (arith, there.2)))
