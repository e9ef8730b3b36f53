use Rattle.std.proofs.Common.{◌<◌, ℕ, ℤ, pos, get_or, length, map, ap, sym, ◌∙◌, arith}
use Rattle.std.proofs.lemmas.List.{get_or-set_other, map-set}
use Rattle.fl_codec.proofs.WithoutNulls.{value_filled, value_of_read}
use Rattle.fl_patches.proofs.Histograms.{word_value}
use Rattle.fl_statistics.specs.Differences.{difference}
use Rattle.fl_statistics.proofs.sources.subtract.Goals as goal

pub loop-q-preserved : goal.loop-q-preserved
loop-q-preserved g c =
    let t = g.T.NativePType.PTYPE in
    let read = word_value g.T.Physical.FastLanes.pattern t in
    let less : ℤ → ℤ = difference t (g.T.Number.value c.args.reference) in
    let q = c.loop-q.q in
    let inside : q < length c.loop-q.words = omega arith in
    let slot : ℕ → ℤ = λ j. less (get_or (map read c.args.words.now) j (pos 0)) in
    let before = value_of_read read c.loop-q.words q c.index-words-q.result inside c.index-words-q.is in
    let first = c.loop-q.invariant.left q (omega arith) in
    record {
      done = value_filled read slot c.loop-q.words q c.word_of_difference.result inside c.loop-q.invariant.done (c.word_of_difference.ensures ∙ ap less (ap read (sym c.index-words-q.is) ∙ (before ∙ first)));
      left = λ j h. ap (λ ys. get_or ys j (pos 0)) (map-set read c.loop-q.words q c.word_of_difference.result) ∙ (get_or-set_other (map read c.loop-q.words) q j (read c.word_of_difference.result) (pos 0) (λ e. absurd (omega arith)) ∙ c.loop-q.invariant.left j (omega arith));
    }

pub returns : goal.returns
returns g c = λ q h. c.loop-q.invariant.done q (omega arith)
