use Rattle.std.proofs.Common.{arith, ◌∙◌, length, ◌≡◌}
use Rattle.fastlanes.specs.Layout.{pattern_at, place}
use Rattle.fastlanes.proofs.Bijection.{place_read}
use Rattle.fastlanes.proofs.Wholes.{same_block}
use Rattle.fastlanes.proofs.DeltaRows.{sums_back}
use Rattle.fastlanes.proofs.laws.round_trips.delta_and_back.Goals as goal

pub returns-clause-back : goal.returns-clause-back
returns-clause-back g c = same_block g.W.FastLanes.pattern g.W.FastLanes.T g.W.FastLanes.LANES g.met.W.FastLanes.shape g.met.W.FastLanes.one_word _ _ (omega arith) (omega arith) (λ r l p q.
    c.undelta.ensures.items r l p q ∙ sums_back g.W.FastLanes.T g.W.FastLanes.LANES (pattern_at g.W.FastLanes.pattern c.args.bases.now) (pattern_at g.W.FastLanes.pattern c.args.items.now) (pattern_at g.W.FastLanes.pattern c.delta.new.deltas) r l p q
    (λ m h. c.words_are_in_range-2.ensures m (omega arith))
    (λ s m h k. let there = place_read g.W.FastLanes.T g.W.FastLanes.LANES s m g.met.W.FastLanes.shape h k in let long : length c.args.items.now ≡ 1024 = omega arith in c.words_are_in_range.ensures (place s m) (rw long there.2))
    c.delta.ensures.deltas)
