use Rattle.std.proofs.Common.{◌≡◌, ◌+◌, ◌-◌, ◌*◌, ◌∙◌, inl, inr, arith}
use Rattle.std.proofs.lemmas.Bool.{cases_lt}
use Rattle.fastlanes.proofs.unpacking.copy_words.Goals as goal

pub loop-m-preserved : goal.loop-m-preserved
loop-m-preserved g c = record {
  done = λ i h. elim (cases_lt i (16 * c.loop-m.m)) [
    | inl before ↦ c.store.ensures.others i (inl before) ∙ c.loop-m.invariant.done i before
    | inr after ↦ (let place : 16 * c.loop-m.m + (i - 16 * c.loop-m.m) ≡ i = omega arith in
        rw (← place) (c.store.ensures.lanes (i - 16 * c.loop-m.m) (omega arith) ∙ c.load.ensures.lanes (i - 16 * c.loop-m.m) (omega arith)))
  ];
  small = λ i h. elim (cases_lt i (16 * c.loop-m.m)) [
    | inl before ↦ c.loop-m.invariant.small i before
    | inr after ↦ (let place : 16 * c.loop-m.m + (i - 16 * c.loop-m.m) ≡ i = omega arith in
        let lane = c.load.ensures.lanes (i - 16 * c.loop-m.m) (omega arith) in
        let small = c.load.ensures.small (i - 16 * c.loop-m.m) (omega arith) in
        rw (lane, place) at small)
  ];
  whole = c.store.auto.words ∙ c.loop-m.invariant.whole;
}
