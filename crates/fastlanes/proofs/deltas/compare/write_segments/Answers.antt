use Rattle.std.proofs.Common.{◌≢◌, ℕ, ◌+◌, ◌*◌, ◌/◌, ◌<◌, arith, ◌∙◌, ap, sym, inl, inr, length}
use Rattle.std.proofs.lemmas.Bool.{cases_eq}
use Rattle.fastlanes.specs.Layout.{segment}
use Rattle.fastlanes.proofs.Patterns.{pattern_at_read}
use Rattle.fastlanes.proofs.Segments.{words_apart}
use Rattle.fastlanes.proofs.deltas.compare.write_segments.Goals as goal

pub loop-j-preserved : goal.loop-j-preserved
loop-j-preserved g c =
    let here = c.word_of_segment.ensures.word in
    let apart : (m : ℕ) → m < g.W.FastLanes.LANES → m ≢ 16 * c.args.g + c.loop-j.j → segment m / g.W.FastLanes.T ≢ c.word_of_segment.result = λ m p other. rw here (words_apart g.W.FastLanes.T g.W.FastLanes.LANES m (16 * c.args.g + c.loop-j.j) g.met.W.FastLanes.shape p (omega arith) other) in
    record {
      put = λ k h. elim (cases_eq k c.loop-j.j) [
        | inl same ↦
            let short : c.loop-j.j < length c.to_words-words.result = omega (arith, c.to_words-words.type_inv) in
            rw (same, ← here) (c.put_word.ensures.put ∙ (ap (λ y. g.W.FastLanes.pattern y) (sym c.index-words-j.is) ∙ sym (pattern_at_read g.W.FastLanes.pattern c.to_words-words.result c.loop-j.j c.index-words-j.result short c.index-words-j.is)))
        | inr other ↦
            c.put_word.ensures.others (segment (16 * c.args.g + k) / g.W.FastLanes.T) (apart (16 * c.args.g + k) (omega arith) (omega arith)) ∙ c.loop-j.invariant.put k (omega arith)
      ];
      others = λ m h. c.put_word.ensures.others (segment m / g.W.FastLanes.T) (apart m (omega arith) (omega arith)) ∙ c.loop-j.invariant.others m h;
      whole = omega (arith, c.put_word.auto.bytes);
    }

pub returns-clause-put : goal.returns-clause-put
returns-clause-put g c j h = c.loop-j.invariant.put j (omega arith) ∙ c.to_words-words.ensures j h
