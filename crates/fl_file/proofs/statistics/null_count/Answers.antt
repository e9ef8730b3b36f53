use Rattle.std.proofs.Common.{◌∙◌, ◌-◌, ap, length}
use Rattle.fl_types.specs.declared.validity.Validity.TheVariants as valid
use Rattle.fl_file.proofs.SummaryLaws.{no_nulls_in, nulls_in}
use Rattle.fl_file.proofs.statistics.null_count.Goals as goal

pub returns-in-AllInvalid : goal.returns-in-AllInvalid
returns-in-AllInvalid c = c.len.ensures.slots ∙ nulls_in c.args.array.now c.validity.result.now valid.AllInvalid c.validity.ensures.value c.in-AllInvalid.is c.validity.ensures.covers

pub returns-in-Array : goal.returns-in-Array
returns-in-Array c =
    ap (λ n. n - c.count_true.result) c.len-in-Array.ensures.slots ∙ ap (λ n. length c.args.array.now.slots - n) c.count_true.ensures
    ∙ nulls_in c.args.array.now c.validity.result.now (valid.Array c.in-Array.bits) c.validity.ensures.value c.in-Array.is c.validity.ensures.covers

pub returns-in-NonNullable : goal.returns-in-NonNullable
returns-in-NonNullable c = no_nulls_in c.args.array.now c.validity.result.now c.validity.ensures.value c.in-NonNullable.is c.validity.ensures.covers

pub returns-in-NonNullable-2 : goal.returns-in-NonNullable-2
returns-in-NonNullable-2 c = no_nulls_in c.args.array.now c.validity.result.now c.validity.ensures.value c.in-NonNullable.is c.validity.ensures.covers
