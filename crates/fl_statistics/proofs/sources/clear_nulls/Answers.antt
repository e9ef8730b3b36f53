use Rattle.std.proofs.Common.{◌≡◌, ◌<◌, ◌+◌, ◌*◌, ℕ, ℤ, pos, Bool, true, false, not, cond, get_or, length, length-set, map, refl, ap, sym, ◌∙◌, arith}
use Rattle.std.proofs.lemmas.List.{get_or-set_other, map-set}
use Rattle.fl_types.specs.Validities.{is_valid_at}
use Rattle.fl_codec.proofs.WithoutNulls.{value_filled, value_of_read}
use Rattle.fl_patches.proofs.Histograms.{word_value}
use Rattle.fl_statistics.proofs.sources.clear_nulls.Goals as goal

turned_about : (b : Bool) (z : ℤ) → cond (not b) (pos 0) z ≡ cond b z (pos 0)
turned_about true z = refl
turned_about false z = refl

pub loop-q-preserved : goal.loop-q-preserved
loop-q-preserved g c =
    let t = g.T.NativePType.PTYPE in
    let read = word_value g.T.Physical.FastLanes.pattern t in
    let q = c.loop-q.q in
    let few = c.requires.few in
    let more = c.loop-q-test.true in
    let inside : q < length c.loop-q.words = let whole = c.loop-q.invariant.whole in omega arith in
    let valid : ℕ → Bool = λ j. is_valid_at (g.S.BlockSource.parts c.args.source.now).validity (1024 * c.args.block + j) in
    let slot : ℕ → ℤ = λ j. cond (valid j) (get_or (map read c.args.words.now) j (pos 0)) (pos 0) in
    let before = value_of_read read c.loop-q.words q c.index-words-q.result inside c.index-words-q.is in
    let first = c.loop-q.invariant.left q (omega arith) in
    let w = get_or c.loop-q.words q c.index-words-q.result in
    let here = c.word_unless_null.ensures ∙ (ap (λ b. cond b (pos 0) (read w)) c.is_null-is_null.ensures ∙ (turned_about (valid q) (read w) ∙ ap (λ z. cond (valid q) z (pos 0)) (ap read (sym c.index-words-q.is) ∙ (before ∙ first)))) in
    record {
      done = value_filled read slot c.loop-q.words q c.word_unless_null.result inside c.loop-q.invariant.done here;
      left = λ j h. ap (λ ys. get_or ys j (pos 0)) (map-set read c.loop-q.words q c.word_unless_null.result) ∙ (get_or-set_other (map read c.loop-q.words) q j (read c.word_unless_null.result) (pos 0) (λ e. absurd (omega arith)) ∙ c.loop-q.invariant.left j (omega arith));
      whole = rw length-set c.loop-q.invariant.whole;
    }
