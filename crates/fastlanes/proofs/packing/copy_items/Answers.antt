use Rattle.std.proofs.Common.{◌≡◌, ◌+◌, ◌-◌, ◌*◌, ◌∙◌, inl, inr, arith, ap}
use Rattle.std.proofs.lemmas.Bool.{cases_lt}
use Rattle.fastlanes.proofs.packing.copy_items.Goals as goal

pub loop-m-preserved : goal.loop-m-preserved
loop-m-preserved g c = record {
  done = λ i h. elim (cases_lt i (16 * c.loop-m.m)) [
    | inl before ↦ c.store.ensures.others i (inl before) ∙ c.loop-m.invariant.done i before
    | inr after ↦ (let place : 16 * c.loop-m.m + (i - 16 * c.loop-m.m) ≡ i = omega arith in
        rw (← place) (c.store.ensures.lanes (i - 16 * c.loop-m.m) (omega arith) ∙ c.load.ensures.lanes (i - 16 * c.loop-m.m) (omega arith)))
  ];
  whole = ap g.S.Storage.count c.store.auto.units ∙ c.loop-m.invariant.whole;
}
