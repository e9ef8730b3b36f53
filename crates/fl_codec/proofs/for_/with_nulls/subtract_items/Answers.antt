use Rattle.std.proofs.Common.{◌≡◌, ◌∙◌, ℕ, ℤ, pos, Some, None, cond, ap, arith, get_or, length, map}
use Rattle.fl_types.specs.Bits.{bit_of_word}
use Rattle.fl_codec.specs.FoRColumns.{minus_reference}
use Rattle.fl_codec.proofs.WithoutNulls.{value_filled, value_of_read}
use Rattle.fl_codec.proofs.for_.with_nulls.subtract_items.Goals as goal

pub loop-j-preserved : goal.loop-j-preserved
loop-j-preserved g c =
    let value = g.T.Number.value in
    let less = minus_reference g.T.NativePType.PTYPE (value c.args.reference) in
    let more = c.loop-j-test.true in
    let slot : ℕ → ℤ = λ i. less (cond (bit_of_word c.args.word i) (Some (get_or (map value c.args.items.now) i (pos 0))) None) in
    let read = value_of_read value c.args.items.now c.loop-j.j c.index-items-j.result more c.index-items-j.is in
    let kept : length c.loop-j.slots ≡ length c.args.items.now = c.loop-j.auto.slots ∙ c.requires.slots in
    value_filled value slot c.loop-j.slots c.loop-j.j c.difference.result (omega arith) c.loop-j.invariant
    (c.difference.ensures ∙ (ap (λ b. less (cond b (Some (value c.index-items-j.result)) None)) c.has_bit.ensures ∙ ap (λ z. less (cond (bit_of_word c.args.word c.loop-j.j) (Some z) None)) read))

pub returns : goal.returns
returns g c j h =
    let over = c.loop-j-test.false in
    c.loop-j.invariant j (omega arith)
