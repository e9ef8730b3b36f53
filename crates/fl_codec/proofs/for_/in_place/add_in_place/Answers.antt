use Rattle.std.proofs.Common.{◌<◌, ◌+ℤ◌, ℕ, ℤ, pos, get_or, length, length-set, map, ap, ◌∙◌, arith}
use Rattle.std.proofs.lemmas.List.{get_or-set_other, map-set}
use Rattle.fl_types.specs.Integers.{wrap}
use Rattle.fl_codec.proofs.WithoutNulls.{all_filled, value_filled, value_of_read}
use Rattle.fl_codec.proofs.for_.in_place.add_in_place.Goals as goal

pub loop-i-preserved : goal.loop-i-preserved
loop-i-preserved g c =
    let value = g.T.Number.value in
    let i = c.loop-i.i in
    let long = c.loop-i.invariant.long in
    let more = c.loop-i-test.true in
    let inside : i < length c.loop-i.values = omega arith in
    let slot : ℕ → ℤ = λ j. wrap g.T.NativePType.PTYPE (get_or (map value c.args.values.now) j (pos 0) +ℤ value c.args.reference) in
    let read = value_of_read value c.loop-i.values i c.index-values-i.result inside c.index-values-i.is in
    let first = c.loop-i.invariant.left i (omega arith) in
    record {
      done = value_filled value slot c.loop-i.values i c.plus.result inside c.loop-i.invariant.done (c.plus.ensures ∙ ap (λ z. wrap g.T.NativePType.PTYPE (z +ℤ value c.args.reference)) (read ∙ first));
      left = λ j h. ap (λ ys. get_or ys j (pos 0)) (map-set value c.loop-i.values i c.plus.result) ∙ (get_or-set_other (map value c.loop-i.values) i j (value c.plus.result) (pos 0) (λ e. absurd (omega arith)) ∙ c.loop-i.invariant.left j (omega arith));
      long = rw length-set long;
    }

pub returns : goal.returns
returns g c =
    let value = g.T.Number.value in
    let over = c.loop-i-test.false in
    all_filled value value (λ z. wrap g.T.NativePType.PTYPE (z +ℤ value c.args.reference)) c.loop-i.values c.args.values.now c.loop-i.invariant.long (λ j h. c.loop-i.invariant.done j (omega arith))
