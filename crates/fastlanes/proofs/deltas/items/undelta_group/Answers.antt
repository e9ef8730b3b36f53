use Rattle.std.proofs.Common.{◌≡◌, ◌+◌, ◌*◌, arith, refl}
use Rattle.fastlanes.specs.Layout.{pattern_at}
use Rattle.fastlanes.specs.Delta.{item_place, summed_item}
use Rattle.fastlanes.proofs.RowWrites.{written_none, written_more, written_all}
use Rattle.fastlanes.proofs.DeltaRows.{sums_begin}
use Rattle.fastlanes.proofs.Segments.{whole_fours}
use Rattle.fastlanes.proofs.deltas.items.undelta_group.Goals as goal

pub loop-q-init : goal.loop-q-init
loop-q-init g c = record {
  sums = λ j h. sums_begin g.W.FastLanes.T (pattern_at g.W.FastLanes.pattern c.args.bases.now) (pattern_at g.W.FastLanes.pattern c.args.deltas.now) (16 * c.args.g + j) _ _ (omega arith) (c.bases_of-sums.ensures.lanes j h) (c.bases_of-sums.ensures.small j h);
  written = written_none g.W.FastLanes.T g.W.FastLanes.LANES item_place (summed_item g.W.FastLanes.T (pattern_at g.W.FastLanes.pattern c.args.bases.now) (pattern_at g.W.FastLanes.pattern c.args.deltas.now)) c.args.g 0 _ _ (omega arith);
}

pub loop-q-preserved : goal.loop-q-preserved
loop-q-preserved g c =
    let fours = whole_fours g.W.FastLanes.T g.W.FastLanes.LANES g.met.W.FastLanes.shape in
    let next : 4 * (c.loop-q.q + 1) ≡ 4 * c.loop-q.q + 4 = omega arith in
    record {
      sums = rw next c.undelta_four-sums.ensures.sums;
      written = written_more g.W.FastLanes.T g.W.FastLanes.LANES item_place (summed_item g.W.FastLanes.T (pattern_at g.W.FastLanes.pattern c.args.bases.now) (pattern_at g.W.FastLanes.pattern c.args.deltas.now)) c.args.g 0 (4 * c.loop-q.q) (4 * c.loop-q.q) (4 * c.loop-q.q + 4) (4 * (c.loop-q.q + 1)) _ _ _
          c.requires.group (omega arith) (omega arith) (omega arith) refl next c.loop-q.invariant.written c.undelta_four-sums.ensures.written;
    }

pub returns : goal.returns
returns g c =
    let fours = whole_fours g.W.FastLanes.T g.W.FastLanes.LANES g.met.W.FastLanes.shape in
    written_all g.W.FastLanes.T g.W.FastLanes.LANES item_place (summed_item g.W.FastLanes.T (pattern_at g.W.FastLanes.pattern c.args.bases.now) (pattern_at g.W.FastLanes.pattern c.args.deltas.now)) c.args.g (4 * c.loop-q.q) _ _ (omega arith) c.loop-q.invariant.written
