use Rattle.fastlanes.specs.Layout.{pattern_at}
use Rattle.fastlanes.proofs.Turns.{rows_in_turn}
use Rattle.fastlanes.proofs.deltas.items.interleave_rows.Goals as goal

pub returns : goal.returns
returns g c =
    rows_in_turn (pattern_at g.W.FastLanes.pattern c.args.rows.now) (pattern_at g.W.FastLanes.pattern c.interleave.new.target) (pattern_at g.W.FastLanes.pattern c.interleave-2.new.target)
    c.interleave.ensures.even c.interleave.ensures.odd c.interleave-2.ensures.even c.interleave-2.ensures.odd c.interleave-2.ensures.others
