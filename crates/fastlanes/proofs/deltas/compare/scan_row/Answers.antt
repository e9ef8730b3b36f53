use Rattle.std.proofs.Common.{◌+◌, ◌*◌}
use Rattle.fastlanes.specs.Layout.{pattern_at}
use Rattle.fastlanes.specs.Delta.{summed_item}
use Rattle.fastlanes.proofs.ComparedBits.{answers_more}
use Rattle.fastlanes.proofs.DeltaRows.{sum_is_item}
use Rattle.fastlanes.proofs.deltas.compare.scan_row.Goals as goal

pub returns : goal.returns
returns g c = record {
  sums = c.sum_row-sums.ensures;
  answers =
      answers_more g.W.FastLanes.pattern _ c.args.rhs (summed_item g.W.FastLanes.T (pattern_at g.W.FastLanes.pattern c.args.bases.now) (pattern_at g.W.FastLanes.pattern c.args.deltas.now)) c.args.g c.args.r
      (g.W.FastLanes.lane c.args.before.1) (g.W.FastLanes.lane c.sum_row-sums.result) (g.W.FastLanes.lane c.compare_lanes.result) (g.W.FastLanes.lane c.or.result)
      c.requires.before.answers
      (λ j h. sum_is_item g.W.FastLanes.T (pattern_at g.W.FastLanes.pattern c.args.bases.now) (pattern_at g.W.FastLanes.pattern c.args.deltas.now) c.args.r (16 * c.args.g + j) _ (c.sum_row-sums.ensures j h))
      c.compare_lanes.ensures.one c.compare_lanes.ensures.set c.or.ensures.lanes;
}
