use Rattle.std.proofs.Common.{◌≡◌, ◌<◌, true, length, arith, sym, ap, ◌∙◌}
use Rattle.fl_types.specs.Validities.{is_valid_at}
use Rattle.fl_codec.proofs.ReferenceLaws.{nulls_all, valid_fails}
use Rattle.fl_codec.proofs.for_.are_nulls.Goals as goal

pub returns-then-is_valid : goal.returns-then-is_valid
returns-then-is_valid c =
    let array = c.args.array.now in
    let within : c.loop-i.i < length array.slots = let h = c.loop-i-test.true in let e = c.len-len.ensures.slots in omega arith in
    let same = c.validity-validity.ensures.value in
    let valid : is_valid_at array.validity c.loop-i.i ≡ true = ap (λ v. is_valid_at v c.loop-i.i) (sym same) ∙ sym c.if-is_valid.ensures in
    sym (valid_fails array.validity array.slots c.loop-i.i c.validity-validity.ensures.covers within valid)

pub returns : goal.returns
returns c =
    let array = c.args.array.now in
    let all = c.len-len.ensures.slots in
    sym (nulls_all array.validity array.slots c.validity-validity.ensures.covers (λ i h. c.loop-i.invariant i (omega arith)))
