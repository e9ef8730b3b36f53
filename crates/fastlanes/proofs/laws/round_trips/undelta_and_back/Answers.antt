use Rattle.std.proofs.Common.{arith, ◌∙◌, length, ◌≡◌}
use Rattle.fastlanes.specs.Layout.{pattern_at, place}
use Rattle.fastlanes.proofs.Bijection.{place_read}
use Rattle.fastlanes.proofs.Wholes.{same_block}
use Rattle.fastlanes.proofs.DeltaRows.{differences_back}
use Rattle.fastlanes.proofs.laws.round_trips.undelta_and_back.Goals as goal

pub returns-clause-back : goal.returns-clause-back
returns-clause-back g c = same_block g.W.FastLanes.pattern g.W.FastLanes.T g.W.FastLanes.LANES g.met.W.FastLanes.shape g.met.W.FastLanes.one_word _ _ (omega arith) (omega arith) (λ r l p q.
    let there = place_read g.W.FastLanes.T g.W.FastLanes.LANES r l g.met.W.FastLanes.shape p q in
    let long : length c.args.deltas.now ≡ 1024 = omega arith in
    c.delta.ensures.deltas r l p q ∙ differences_back g.W.FastLanes.T g.W.FastLanes.LANES (pattern_at g.W.FastLanes.pattern c.args.bases.now) (pattern_at g.W.FastLanes.pattern c.undelta.new.items) (pattern_at g.W.FastLanes.pattern c.args.deltas.now) r l p q
    (c.words_are_in_range-2.ensures l (omega arith))
    (c.words_are_in_range.ensures (place r l) (rw long there.2))
    c.undelta.ensures.items)
