use Rattle.std.proofs.Common.{◌≡◌, ◌+◌, ◌-◌, map, get_or, pos, ap, sym, ◌∙◌, arith, inl, inr}
use Rattle.std.proofs.lemmas.Bool.{cases_eq}
use Rattle.std.proofs.lemmas.Int.{ints}
use Rattle.fl_codec.proofs.ReferenceLaws.{value_read}
use Rattle.fl_codec.proofs.Rising.{lt_false}
use Rattle.fl_compress.proofs.sorted.rise.Goals as goal

pub loop-i-preserved : goal.loop-i-preserved
loop-i-preserved g c = λ k h.
    let value = g.T.Number.value in
    let items = c.args.items.now in
    let slots = map value items in
    let i = c.loop-i.i in
    elim (cases_eq (k + 1) i) [
      | inl same ↦
          (let before : i - 1 ≡ k = omega arith in
          let here = value_read value items i c.index-items-i.result (pos 0) (omega arith) c.index-items-i.is in
          let there = value_read value items (i - 1) c.index-items-i-in-loop-i.result (pos 0) (omega arith) c.index-items-i-in-loop-i.is in
          let rise = lt_false (value c.index-items-i.result) (value c.index-items-i-in-loop-i.result) (sym c.if-is_less.ensures) in
          let first : value c.index-items-i-in-loop-i.result ≡ get_or slots k (pos 0) = there ∙ ap (λ n. get_or slots n (pos 0)) before in
          let other : value c.index-items-i.result ≡ get_or slots (k + 1) (pos 0) = here ∙ ap (λ n. get_or slots n (pos 0)) (sym same) in
          omega (arith, ints))
      | inr different ↦ c.loop-i.invariant k (omega arith)
    ]
