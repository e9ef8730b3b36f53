use Rattle.std.proofs.Common.{arith}
use Rattle.std.specs.Prelude.{slice_index}
use Rattle.fastlanes.specs.Layout.{pattern_at, unpacked_item}
use Rattle.fastlanes.proofs.Patterns.{pattern_filled}
use Rattle.fastlanes.proofs.SingleItems.{words_of_none, words_of_more}
use Rattle.fastlanes.proofs.single_items.unpack_indices.Goals as goal

pub loop-n-init : goal.loop-n-init
loop-n-init g c =
    let none = words_of_none g.W.FastLanes.T g.W.FastLanes.LANES c.args.width (slice_index c.args.indices.now) in
    record {
      done = λ j h. absurd (omega arith);
      words = rw none (omega arith);
      few = omega arith;
      blocks = omega arith;
    }

pub loop-n-preserved : goal.loop-n-preserved
loop-n-preserved g c =
    let more = words_of_more g.W.FastLanes.T g.W.FastLanes.LANES c.args.width (slice_index c.args.indices.now) c.loop-n.n in
    record {
      done = pattern_filled g.W.FastLanes.pattern (λ j. unpacked_item g.W.FastLanes.T g.W.FastLanes.LANES c.args.width (pattern_at g.W.FastLanes.pattern c.args.words.now) (slice_index c.args.indices.now j)) c.loop-n.items c.loop-n.n c.item_of_words.result (omega arith) c.loop-n.invariant.done c.item_of_words.ensures.item;
      words = rw more (omega arith);
      few = omega arith;
      blocks = omega arith;
    }
