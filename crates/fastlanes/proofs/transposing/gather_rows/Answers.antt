use Rattle.fastlanes.specs.Layout.{pattern_at}
use Rattle.fastlanes.proofs.Turns.{turned_thrice}
use Rattle.fastlanes.proofs.transposing.gather_rows.Goals as goal

pub returns-clause-gathered : goal.returns-clause-gathered
returns-clause-gathered g c = turned_thrice (pattern_at g.W.FastLanes.pattern c.args.stored.now) _ _ _ c.interleave_halves.ensures.in_turn c.interleave_halves-2.ensures.in_turn c.interleave_halves-3.ensures.in_turn
