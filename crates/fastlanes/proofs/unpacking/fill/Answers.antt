use Rattle.std.proofs.Common.{arith, length-set, refl}
use Rattle.fastlanes.proofs.Patterns.{pattern_filled}
use Rattle.fastlanes.proofs.unpacking.fill.Goals as goal

pub loop-i-preserved : goal.loop-i-preserved
loop-i-preserved g c = record {
  done = λ j h. pattern_filled _ (λ i. g.W.FastLanes.pattern c.args.word) c.loop-i.items c.loop-i.i c.args.word (omega arith) c.loop-i.invariant.done refl j (omega arith);
  whole = rw length-set c.loop-i.invariant.whole;
}
