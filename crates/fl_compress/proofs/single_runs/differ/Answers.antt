use Rattle.std.proofs.Common.{◌≡◌, ◌+◌, ◌-◌, map, get_or, pos, ap, sym, ◌∙◌, arith, inl, inr}
use Rattle.std.specs.Ordering.{int_eq}
use Rattle.std.proofs.lemmas.Bool.{cases_eq}
use Rattle.fl_codec.proofs.ReferenceLaws.{value_read}
use Rattle.fl_compress.proofs.single_runs.differ.Goals as goal

pub loop-i-preserved : goal.loop-i-preserved
loop-i-preserved g c = λ k h.
    let value = g.T.Number.value in
    let items = c.args.items.now in
    let slots = map value items in
    let i = c.loop-i.i in
    elim (cases_eq (k + 1) i) [
      | inl same ↦
          (let before : k ≡ i - 1 = omega arith in
          let here = value_read value items i c.index-items-i.result (pos 0) (omega arith) c.index-items-i.is in
          let there = value_read value items (i - 1) c.index-items-i-in-loop-i.result (pos 0) (omega arith) c.index-items-i-in-loop-i.is in
          ap (λ n. int_eq (get_or slots n (pos 0)) (get_or slots k (pos 0))) same ∙ (ap (λ n. int_eq (get_or slots i (pos 0)) (get_or slots n (pos 0))) before
          ∙ (ap (λ z. int_eq z (get_or slots (i - 1) (pos 0))) (sym here) ∙ (ap (int_eq (value c.index-items-i.result)) (sym there) ∙ sym c.if-is_equal.ensures))))
      | inr other ↦ c.loop-i.invariant k (omega arith)
    ]
