use Rattle.std.proofs.Common.{◌∙◌, ap, map, refl}
use Rattle.fl_types.specs.declared.validity.Validity.TheVariants as valid
use Rattle.fl_file.specs.Statistics.{extremes_among, total}
use Rattle.fl_file.proofs.SummaryLaws.{all_valid_in, valid_in}
use Rattle.fl_file.proofs.statistics.summary_typed.Goals as goal

pub returns-in-AllInvalid-clause-extremes : goal.returns-in-AllInvalid-clause-extremes
returns-in-AllInvalid-clause-extremes g c = ap extremes_among (valid_in c.args.array.now c.validity.result.now valid.AllInvalid c.args.array.now.slots c.validity.ensures.value c.in-AllInvalid.is refl)

pub returns-in-AllInvalid-clause-sum : goal.returns-in-AllInvalid-clause-sum
returns-in-AllInvalid-clause-sum g c = ap total (valid_in c.args.array.now c.validity.result.now valid.AllInvalid c.args.array.now.slots c.validity.ensures.value c.in-AllInvalid.is refl)

pub returns-in-Array-clause-extremes : goal.returns-in-Array-clause-extremes
returns-in-Array-clause-extremes g c =
    c.summary_of_valid.ensures.extremes ∙ ap extremes_among (valid_in c.args.array.now c.validity.result.now (valid.Array c.in-Array.bits) (map g.T.Number.value c.as_slice.result.now) c.validity.ensures.value c.in-Array.is c.as_slice.ensures)

pub returns-in-Array-clause-sum : goal.returns-in-Array-clause-sum
returns-in-Array-clause-sum g c =
    c.summary_of_valid.ensures.sum ∙ ap total (valid_in c.args.array.now c.validity.result.now (valid.Array c.in-Array.bits) (map g.T.Number.value c.as_slice.result.now) c.validity.ensures.value c.in-Array.is c.as_slice.ensures)

pub returns-in-NonNullable-clause-extremes : goal.returns-in-NonNullable-clause-extremes
returns-in-NonNullable-clause-extremes g c =
    c.summary_of.ensures.extremes ∙ ap extremes_among (all_valid_in c.args.array.now c.validity.result.now (map g.T.Number.value c.as_slice-in-NonNullable.result.now) c.validity.ensures.value c.in-NonNullable.is c.as_slice-in-NonNullable.ensures)

pub returns-in-NonNullable-clause-sum : goal.returns-in-NonNullable-clause-sum
returns-in-NonNullable-clause-sum g c =
    c.summary_of.ensures.sum ∙ ap total (all_valid_in c.args.array.now c.validity.result.now (map g.T.Number.value c.as_slice-in-NonNullable.result.now) c.validity.ensures.value c.in-NonNullable.is c.as_slice-in-NonNullable.ensures)
