use Rattle.std.proofs.Common.{◌≡◌, ◌+◌, ◌*◌, arith, refl}
use Rattle.fastlanes.specs.Layout.{place, pattern_at}
use Rattle.fastlanes.specs.Delta.{item_delta}
use Rattle.fastlanes.proofs.RowWrites.{written_none, written_more, written_all, whole_eights}
use Rattle.fastlanes.proofs.DeltaRows.{before_begin}
use Rattle.fastlanes.proofs.deltas.delta_group.Goals as goal

pub loop-q-init : goal.loop-q-init
loop-q-init g c = record {
  before = λ j h. before_begin (pattern_at g.W.FastLanes.pattern c.args.bases.now) (pattern_at g.W.FastLanes.pattern c.args.items.now) (16 * c.args.g + j) _ _ (omega arith) (c.bases_of-before.ensures.lanes j h);
  written = written_none g.W.FastLanes.T g.W.FastLanes.LANES place (item_delta g.W.FastLanes.T (pattern_at g.W.FastLanes.pattern c.args.bases.now) (pattern_at g.W.FastLanes.pattern c.args.items.now)) c.args.g 0 _ _ (omega arith);
}

pub loop-q-preserved : goal.loop-q-preserved
loop-q-preserved g c =
    let eights = whole_eights g.W.FastLanes.T g.W.FastLanes.LANES g.met.W.FastLanes.shape in
    let next : 8 * (c.loop-q.q + 1) ≡ 8 * c.loop-q.q + 8 = omega arith in
    record {
      before = rw next c.delta_8-before.ensures.before;
      written = written_more g.W.FastLanes.T g.W.FastLanes.LANES place (item_delta g.W.FastLanes.T (pattern_at g.W.FastLanes.pattern c.args.bases.now) (pattern_at g.W.FastLanes.pattern c.args.items.now)) c.args.g 0 (8 * c.loop-q.q) (8 * c.loop-q.q) (8 * c.loop-q.q + 8) (8 * (c.loop-q.q + 1)) _ _ _
          c.requires.group (omega arith) (omega arith) (omega arith) refl next c.loop-q.invariant.written c.delta_8-before.ensures.written;
    }

pub returns : goal.returns
returns g c = record {
  written =
      let eights = whole_eights g.W.FastLanes.T g.W.FastLanes.LANES g.met.W.FastLanes.shape in
      written_all g.W.FastLanes.T g.W.FastLanes.LANES place (item_delta g.W.FastLanes.T (pattern_at g.W.FastLanes.pattern c.args.bases.now) (pattern_at g.W.FastLanes.pattern c.args.items.now)) c.args.g (8 * c.loop-q.q) _ _ (omega arith) c.loop-q.invariant.written;
}
