use Rattle.std.proofs.Common.{◌≢◌, ◌+◌, ◌*◌, ◌<◌, arith, ◌∙◌, ap, sym, inl, inr, length}
use Rattle.std.proofs.lemmas.Bool.{cases_eq}
use Rattle.fastlanes.proofs.Patterns.{pattern_at_read}
use Rattle.fastlanes.proofs.compare.write_group.Goals as goal

pub loop-j-preserved : goal.loop-j-preserved
loop-j-preserved g c = record {
  put = λ k h. elim (cases_eq k c.loop-j.j) [
    | inl same ↦
        let short : c.loop-j.j < length c.to_words-words.result = omega (arith, c.to_words-words.type_inv) in
        rw same (c.put_word.ensures.put ∙ (ap (λ y. g.W.FastLanes.pattern y) (sym c.index-words-j.is) ∙ sym (pattern_at_read g.W.FastLanes.pattern c.to_words-words.result c.loop-j.j c.index-words-j.result short c.index-words-j.is)))
    | inr other ↦ let apart : 16 * c.args.g + k ≢ 16 * c.args.g + c.loop-j.j = omega arith in
        c.put_word.ensures.others (16 * c.args.g + k) apart ∙ c.loop-j.invariant.put k (omega arith)
  ];
  others = λ k h. let apart : k ≢ 16 * c.args.g + c.loop-j.j = omega arith in c.put_word.ensures.others k apart ∙ c.loop-j.invariant.others k h;
  whole = omega (arith, c.put_word.auto.bytes);
}

pub returns-clause-put : goal.returns-clause-put
returns-clause-put g c j h = c.loop-j.invariant.put j (omega arith) ∙ c.to_words-words.ensures j h
