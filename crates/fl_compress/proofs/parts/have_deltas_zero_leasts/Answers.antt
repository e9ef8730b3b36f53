use Rattle.std.proofs.Common.{ap, sym, ◌∙◌, arith}
use Rattle.fl_types.specs.Integers.{is_unsigned}
use Rattle.fl_compress.proofs.ZeroLeasts.{deltas_zero}
use Rattle.fl_compress.proofs.parts.have_deltas_zero_leasts.Goals as goal

pub returns : goal.returns
returns c = λ unsigned.
    let slots = c.len.ensures.slots in
    let some = c.if-len-eq0.false in
    deltas_zero c.args.array.now c.validity-validity.ensures.covers (omega arith) (ap is_unsigned (sym c.ptype.ensures) ∙ (sym c.is_unsigned.ensures ∙ unsigned))
