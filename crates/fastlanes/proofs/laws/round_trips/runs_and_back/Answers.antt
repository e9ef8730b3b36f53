use Rattle.std.proofs.Common.{arith, rules, ◌∙◌, ◌<◌}
use Rattle.std.specs.Prelude.{slice_index}
use Rattle.fastlanes.specs.Layout.{pattern_at}
use Rattle.fastlanes.proofs.Patterns.{pattern_at_take}
use Rattle.fastlanes.proofs.Changes.{changes_ordered}
use Rattle.fastlanes.proofs.Wholes.{same_list}
use Rattle.fastlanes.proofs.laws.round_trips.runs_and_back.Goals as goal

pub rle_decode-requires : goal.rle_decode-requires
rle_decode-requires g c = (
  search rules,
  λ q h.
      let ordered = changes_ordered (pattern_at g.W.FastLanes.pattern c.args.items.now) q 1023 (omega arith) in
      let at = c.rle_encode-count.ensures.indices q h in
      omega arith,
)

pub returns-clause-back : goal.returns-clause-back
returns-clause-back g c = same_list g.W.FastLanes.pattern g.met.W.FastLanes.one_word _ _ (omega arith) (λ i h.
    let inside : i < 1024 = omega arith in
    let ordered = changes_ordered (pattern_at g.W.FastLanes.pattern c.args.items.now) i 1023 (omega arith) in
    let at = c.rle_encode-count.ensures.indices i inside in
    let below : slice_index c.rle_encode-count.new.indices i < c.rle_encode-count.result = omega arith in
    c.rle_decode.ensures.items i inside ∙ (pattern_at_take g.W.FastLanes.pattern c.rle_encode-count.new.values c.rle_encode-count.result (slice_index c.rle_encode-count.new.indices i) below
    ∙ (rw at (c.rle_encode-count.ensures.values i inside))))
