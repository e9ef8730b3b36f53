use Rattle.std.proofs.Common.{ℕ, arith, ◌∙◌, sym, length, ◌≡◌, ◌<◌}
use Rattle.fastlanes.specs.Layout.{pattern_at, place}
use Rattle.fastlanes.specs.Delta.{summed_item}
use Rattle.fastlanes.proofs.Bijection.{place_read}
use Rattle.fastlanes.proofs.Wholes.{same_list}
use Rattle.fastlanes.proofs.DeltaRows.{sums_back}
use Rattle.fastlanes.proofs.Segments.{items_of_sums}
use Rattle.fastlanes.proofs.laws.round_trips.items_and_back.Goals as goal

pub returns-clause-back : goal.returns-clause-back
returns-clause-back g c =
    let base = pattern_at g.W.FastLanes.pattern c.args.bases.now in
    let stored = pattern_at g.W.FastLanes.pattern c.transpose.new.stored in
    let delta = pattern_at g.W.FastLanes.pattern c.delta.new.deltas in
    let summed : (r l : ℕ) → r < g.W.FastLanes.T → l < g.W.FastLanes.LANES → stored (place r l) ≡ summed_item g.W.FastLanes.T base delta r l = λ r l p q. sym (sums_back g.W.FastLanes.T g.W.FastLanes.LANES base stored delta r l p q
    (λ m h. c.words_are_in_range-2.ensures m (omega arith))
    (λ s m h k. let there = place_read g.W.FastLanes.T g.W.FastLanes.LANES s m g.met.W.FastLanes.shape h k in let long : length c.transpose.new.stored ≡ 1024 = omega arith in c.words_are_in_range.ensures (place s m) (rw long there.2))
    c.delta.ensures.deltas) in
    same_list g.W.FastLanes.pattern g.met.W.FastLanes.one_word _ _ (omega arith) (λ i h.
    c.undelta_to_items.ensures.items i (omega arith)
    ∙ sym (items_of_sums g.W.FastLanes.T g.W.FastLanes.LANES base delta (pattern_at g.W.FastLanes.pattern c.args.items.now) stored g.met.W.FastLanes.shape summed c.transpose.ensures.moved i (omega arith)))
