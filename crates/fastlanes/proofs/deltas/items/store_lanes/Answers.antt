use Rattle.std.proofs.Common.{◌+◌, ◌*◌, ◌∙◌, refl}
use Rattle.fastlanes.specs.Layout.{pattern_at}
use Rattle.fastlanes.proofs.Segments.{runs_more, runs_kept}
use Rattle.fastlanes.proofs.deltas.items.store_lanes.Goals as goal

pub loop-j-preserved : goal.loop-j-preserved
loop-j-preserved g c = record {
  lanes = runs_more (λ n k. pattern_at g.W.FastLanes.pattern c.args.rows.now (16 * k + n)) _ _ c.args.at c.loop-j.j (c.loop-j.j + 1) c.requires refl c.loop-j.invariant.lanes c.store_lane.ensures.lane c.store_lane.ensures.others;
  others = λ i away. c.store_lane.ensures.others i (runs_kept c.args.at c.loop-j.j i c.requires away) ∙ c.loop-j.invariant.others i away;
}
