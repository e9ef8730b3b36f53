use Rattle.std.proofs.lemmas.Result.{err_from_is_err_and}
use Rattle.fl_types.specs.Values.{scalar_parts}
use Rattle.fl_ops.proofs.SelectedLaws.{refused_over}
use Rattle.fl_ops.proofs.selection.+select.Goals as goal

pub returns-in_err-part-in-Some-clause-column : goal.returns-in_err-part-in-Some-clause-column
returns-in_err-part-in-Some-clause-column t c =
    let refused = err_from_is_err_and c.from_residual.result c.from_residual.ensures.1 in
    rw (refused.1, refused.2)
    (refused_over c.in_err-part-in-Some.field-0.0 c.args.selection c.in-Some.array.now c.args.array.now (scalar_parts c.in-Some.reference) c.in-Some.ensures.some.0 c.in-Some.ensures.some.1
    (rw c.encoded.ensures.array at c.in_err-part-in-Some.ensures.column))
