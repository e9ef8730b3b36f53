use Rattle.std.proofs.Common.{◌+◌, arith, length, inl, inr, sym, ◌∙◌}
use Rattle.std.proofs.lemmas.Bool.{cases_eq}
use Rattle.fastlanes.proofs.Patterns.{pattern_at_get_or}
use Rattle.fastlanes.proofs.Streams.{sixteen_fit}
use Rattle.fastlanes.proofs.storage.AsBytesStorage.store.Goals as goal

pub loop-j-preserved : goal.loop-j-preserved
loop-j-preserved g c = record {
  room = omega (arith, c.put_word.auto.bytes);
  put = λ k below. elim (cases_eq k c.loop-j.j) [
    | inl same ↦
        let written = c.put_word.ensures.put ∙ sym (pattern_at_get_or g.W.FastLanes.pattern c.to_words-words.result c.loop-j.j _ (omega arith)) in
        rw same written
    | inr other ↦ c.put_word.ensures.others (c.args.at + k) (λ e. other (omega arith)) ∙ c.loop-j.invariant.put k (omega arith)
  ];
  others = λ i away. c.put_word.ensures.others i (λ e. omega arith) ∙ c.loop-j.invariant.others i away;
}

pub put_word-requires : goal.put_word-requires
put_word-requires g c = rw c.loop-j.invariant.room (sixteen_fit g.W.FastLanes.T g.W.FastLanes.LANES c.args.at c.loop-j.j (length c.args.units.now) g.met.W.FastLanes.shape c.requires.room c.loop-j-test.true)
