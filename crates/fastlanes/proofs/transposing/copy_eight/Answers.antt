use Rattle.std.proofs.Common.{arith, length-set, ◌+◌, ◌*◌}
use Rattle.fastlanes.specs.Layout.{pattern_at}
use Rattle.fastlanes.specs.Delta.{gathered_from}
use Rattle.fastlanes.proofs.Patterns.{pattern_filled}
use Rattle.fastlanes.proofs.transposing.copy_eight.Goals as goal

pub loop-c-preserved : goal.loop-c-preserved
loop-c-preserved g c = record {
  done = λ j h. pattern_filled _ (λ i. pattern_at g.W.FastLanes.pattern c.args.gathered.now (gathered_from i)) c.loop-c.items (8 * c.args.h + c.loop-c.c) c.gathered_of_eight.result (omega arith) c.loop-c.invariant.done c.gathered_of_eight.ensures j (omega arith);
  whole = rw length-set c.loop-c.invariant.whole;
}
