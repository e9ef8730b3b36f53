use Rattle.std.proofs.Common.{arith}
use Rattle.fastlanes.specs.Layout.{place, pattern_at}
use Rattle.fastlanes.specs.Delta.{item_delta}
use Rattle.fastlanes.proofs.RowWrites.{groups_more, whole_eights}
use Rattle.fastlanes.proofs.deltas.delta.Goals as goal

pub loop-g-preserved : goal.loop-g-preserved
loop-g-preserved g c = record {
  written = groups_more g.W.FastLanes.T g.W.FastLanes.LANES place (item_delta g.W.FastLanes.T (pattern_at g.W.FastLanes.pattern c.args.bases.now) (pattern_at g.W.FastLanes.pattern c.args.items.now)) c.loop-g.g
      (pattern_at g.W.FastLanes.pattern c.loop-g.deltas) (pattern_at g.W.FastLanes.pattern c.delta_group.new.deltas) (omega arith) c.delta_group.ensures.written c.loop-g.invariant.written;
}

pub returns-clause-deltas : goal.returns-clause-deltas
returns-clause-deltas g c r l p q =
    let eights = whole_eights g.W.FastLanes.T g.W.FastLanes.LANES g.met.W.FastLanes.shape in
    c.loop-g.invariant.written r l p (omega arith)
