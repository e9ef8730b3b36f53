use Rattle.fastlanes.specs.Layout.{pattern_at}
use Rattle.fastlanes.proofs.DeltaRows.{sums_here}
use Rattle.fastlanes.proofs.deltas.sum_row.Goals as goal

pub returns : goal.returns
returns g c j h =
    sums_here g.W.FastLanes.T (pattern_at g.W.FastLanes.pattern c.args.bases.now) (pattern_at g.W.FastLanes.pattern c.args.deltas.now) c.args.r c.args.g j _ _ _ _
    c.pos.ensures (c.requires.sums j h) (c.load.ensures.lanes j h) (c.add.ensures.lanes j h)
