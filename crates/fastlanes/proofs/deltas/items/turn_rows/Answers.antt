use Rattle.fastlanes.specs.Layout.{pattern_at}
use Rattle.fastlanes.proofs.Turns.{turned_twice}
use Rattle.fastlanes.proofs.deltas.items.turn_rows.Goals as goal

pub returns : goal.returns
returns g c =
    turned_twice (pattern_at g.W.FastLanes.pattern c.args.rows.now) (pattern_at g.W.FastLanes.pattern c.interleave_rows.new.target) (pattern_at g.W.FastLanes.pattern c.interleave_rows-2.new.target)
    c.interleave_rows.ensures c.interleave_rows-2.ensures
