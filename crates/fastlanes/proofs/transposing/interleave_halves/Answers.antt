use Rattle.std.proofs.Common.{◌+◌, arith, refl}
use Rattle.fastlanes.specs.Layout.{pattern_at}
use Rattle.fastlanes.proofs.Turns.{in_turn_more}
use Rattle.fastlanes.proofs.transposing.interleave_halves.Goals as goal

pub loop-k-preserved : goal.loop-k-preserved
loop-k-preserved g c = record {
  in_turn = in_turn_more (pattern_at g.W.FastLanes.pattern c.args.words.now) _ _ c.loop-k.k (c.loop-k.k + 1) refl c.loop-k.invariant.in_turn c.interleave.ensures.even c.interleave.ensures.odd c.interleave.ensures.others;
  whole = omega (arith, c.interleave.auto.target, c.loop-k.invariant.whole);
}
