use Rattle.std.proofs.Common.{◌≡◌, ◌+◌, ◌*◌, arith, refl}
use Rattle.fastlanes.specs.Layout.{pattern_at}
use Rattle.fastlanes.specs.Delta.{summed_item}
use Rattle.fastlanes.proofs.DeltaRows.{rows_more, sum_is_item}
use Rattle.fastlanes.proofs.deltas.items.sum_four.Goals as goal

pub loop-k-preserved : goal.loop-k-preserved
loop-k-preserved g c =
    let next : c.args.r + (c.loop-k.k + 1) ≡ c.args.r + c.loop-k.k + 1 = omega arith in
    record {
      sums = rw next c.sum_row-sums.ensures;
      rows = rows_more (summed_item g.W.FastLanes.T (pattern_at g.W.FastLanes.pattern c.args.bases.now) (pattern_at g.W.FastLanes.pattern c.args.deltas.now)) c.args.r c.args.g c.loop-k.k (c.loop-k.k + 1) (g.W.FastLanes.lane c.sum_row-sums.result) _ _ refl
          (λ j h. sum_is_item g.W.FastLanes.T (pattern_at g.W.FastLanes.pattern c.args.bases.now) (pattern_at g.W.FastLanes.pattern c.args.deltas.now) (c.args.r + c.loop-k.k) (16 * c.args.g + j) _ (c.sum_row-sums.ensures j h))
          c.loop-k.invariant.rows c.store.ensures.lanes c.store.ensures.others;
      whole = omega (arith, c.store.auto.words, c.loop-k.invariant.whole);
    }
