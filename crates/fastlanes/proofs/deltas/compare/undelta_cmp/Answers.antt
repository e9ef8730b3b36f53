use Rattle.std.proofs.Common.{◌≡◌, ◌+◌, ◌*◌, ◌/◌, ℕ, ap, sym, ◌∙◌}
use Rattle.fastlanes.specs.Layout.{segment, segment_row, segment_lane}
use Rattle.fastlanes.specs.Delta.{delta_item}
use Rattle.fastlanes.specs.Compared.{IsAnswer, has_bit}
use Rattle.fastlanes.proofs.Bijection.{segment_placed}
use Rattle.fastlanes.proofs.ByteBits.{bit_kept}
use Rattle.fastlanes.proofs.Segments.{segment_word}
use Rattle.fastlanes.proofs.deltas.compare.undelta_cmp.Goals as goal

pub returns-clause-bits : goal.returns-clause-bits
unfolding IsAnswer delta_item
returns-clause-bits g c i h x e =
    let there = segment_placed g.W.FastLanes.T g.W.FastLanes.LANES i g.met.W.FastLanes.shape h in
    let l = segment_lane g.W.FastLanes.T i in
    let r = segment_row g.W.FastLanes.T i in
    let word = segment_word g.W.FastLanes.T g.W.FastLanes.LANES l g.met.W.FastLanes.shape there.2 in
    let at : segment l / g.W.FastLanes.T * g.W.FastLanes.T + r ≡ i = ap (λ (n : ℕ). n + r) word.1 ∙ there.0 in
    let kept = bit_kept g.W.FastLanes.T g.W.FastLanes.LANES c.scan_groups.new.bytes c.words_of_bytes.new.words (segment l / g.W.FastLanes.T) r g.met.W.FastLanes.shape c.prove_bytes_fit.ensures there.1 word.0 c.words_of_bytes.ensures.words in
    rw (sym (kept ∙ ap (has_bit c.words_of_bytes.new.words) at)) (c.scan_groups.ensures r l there.1 there.2 x e)
