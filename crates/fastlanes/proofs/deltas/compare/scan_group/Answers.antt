use Rattle.std.proofs.Common.{◌+◌, ◌*◌, refl}
use Rattle.fastlanes.specs.Layout.{pattern_at}
use Rattle.fastlanes.specs.Delta.{summed_item}
use Rattle.fastlanes.proofs.ComparedBits.{answers_none}
use Rattle.fastlanes.proofs.DeltaRows.{sums_begin}
use Rattle.fastlanes.proofs.deltas.compare.scan_group.Goals as goal

pub loop-q-init : goal.loop-q-init
loop-q-init g c = record {
  scanned = record {
    sums = λ j h. sums_begin g.W.FastLanes.T (pattern_at g.W.FastLanes.pattern c.args.bases.now) (pattern_at g.W.FastLanes.pattern c.args.deltas.now) (16 * c.args.g + j) 0 _ refl (c.bases_of.ensures.lanes j h) (c.bases_of.ensures.small j h);
    answers = answers_none g.W.FastLanes.pattern _ c.args.rhs (summed_item g.W.FastLanes.T (pattern_at g.W.FastLanes.pattern c.args.bases.now) (pattern_at g.W.FastLanes.pattern c.args.deltas.now)) c.args.g (g.W.FastLanes.lane c.no_answers.result) c.no_answers.ensures.lanes;
  };
}
