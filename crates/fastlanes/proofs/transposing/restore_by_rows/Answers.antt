use Rattle.std.proofs.Common.{◌∙◌, ap}
use Rattle.fastlanes.specs.Layout.{pattern_at}
use Rattle.fastlanes.specs.Delta.{gathered_from}
use Rattle.fastlanes.proofs.Moves.{gathered_moved}
use Rattle.fastlanes.proofs.transposing.restore_by_rows.Goals as goal

pub returns-clause-done : goal.returns-clause-done
returns-clause-done g c i h =
    let there = gathered_moved i h in
    c.copy_all.ensures.done i h ∙ (c.gather_rows.ensures.gathered (gathered_from i) there.0 ∙ ap (pattern_at g.W.FastLanes.pattern c.args.stored.now) there.1)
