use Rattle.std.proofs.Common.{◌∙◌, sym}
use Rattle.flcol_engine.proofs.ParseLemmas.{first_null, first_valid}
use Rattle.flcol_engine.proofs.text.extend_bits.Goals as goal

pub returns-in_ok-validity-in-AllValid-clause-one_more : goal.returns-in_ok-validity-in-AllValid-clause-one_more
returns-in_ok-validity-in-AllValid-clause-one_more c =
    λ n bits size was. first_null n bits c.args.len c.in_ok-validity-in-AllValid.field-0 c.args.is_valid (sym c.in-AllValid.is ∙ was) size c.if-not-is_valid.true c.in_ok-validity-in-AllValid.ensures.validity

pub returns-in_ok-validity-in-AllInvalid-clause-one_more : goal.returns-in_ok-validity-in-AllInvalid-clause-one_more
returns-in_ok-validity-in-AllInvalid-clause-one_more c =
    λ n bits size was. first_valid n bits c.args.len c.in_ok-validity-in-AllInvalid.field-0 c.args.is_valid (sym c.in-AllInvalid.is ∙ was) size c.if-is_valid.true c.in_ok-validity-in-AllInvalid.ensures.validity
