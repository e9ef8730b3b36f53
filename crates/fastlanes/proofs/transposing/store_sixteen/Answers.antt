use Rattle.std.proofs.Common.{arith, length-set, ◌+◌, ◌*◌}
use Rattle.fastlanes.specs.Layout.{pattern_at}
use Rattle.fastlanes.specs.Delta.{moved_from}
use Rattle.fastlanes.proofs.Patterns.{pattern_filled}
use Rattle.fastlanes.proofs.transposing.store_sixteen.Goals as goal

pub loop-a-preserved : goal.loop-a-preserved
loop-a-preserved g c = record {
  done = λ j h. pattern_filled _ (λ i. pattern_at g.W.FastLanes.pattern c.args.items.now (moved_from i)) c.loop-a.stored (16 * c.args.g + c.loop-a.a) c.item_of_sixteen.result (omega arith) c.loop-a.invariant.done c.item_of_sixteen.ensures j (omega arith);
  whole = rw length-set c.loop-a.invariant.whole;
}
