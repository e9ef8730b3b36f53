use Rattle.std.proofs.Common.{arith, inl, inr}
use Rattle.std.proofs.lemmas.Bool.{cases_eq}
use Rattle.fastlanes.proofs.Patterns.{pattern_at_read}
use Rattle.fastlanes.proofs.laws.words_are_in_range.Goals as goal

pub loop-i-preserved : goal.loop-i-preserved
loop-i-preserved g c j h =
    elim (cases_eq j c.loop-i.i) [
      | inl same ↦ rw (same, pattern_at_read g.W.FastLanes.pattern c.args.words.now c.loop-i.i c.index-words-i.result (omega arith) c.index-words-i.is) c.word_is_in_range.ensures
      | inr other ↦ c.loop-i.invariant j (omega arith)
    ]
