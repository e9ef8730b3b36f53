use Rattle.std.proofs.Common.{◌+◌, ◌*◌, ◌∙◌, ap, sym}
use Rattle.fl_types.specs.Validities.{is_valid_at}
use Rattle.fl_codec.proofs.WithNulls.{every_bit, full_valid}
use Rattle.fl_types.proofs.BitLists.{no_bit}
use Rattle.fl_codec.proofs.for_.with_nulls.validity_word.Goals as goal

pub returns-in-AllInvalid : goal.returns-in-AllInvalid
returns-in-AllInvalid c j h within = no_bit j ∙ ap (λ v. is_valid_at v (64 * c.args.k + j)) (sym c.in-AllInvalid.is)

pub returns-in-NonNullable : goal.returns-in-NonNullable
returns-in-NonNullable c j h within = every_bit j h ∙ sym (full_valid c.args.validity.now (64 * c.args.k + j) c.in-NonNullable.is)

pub returns-in-NonNullable-2 : goal.returns-in-NonNullable-2
returns-in-NonNullable-2 c j h within = every_bit j h ∙ sym (full_valid c.args.validity.now (64 * c.args.k + j) c.in-NonNullable.is)
