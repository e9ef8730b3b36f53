use Rattle.std.proofs.Common.{◌∙◌, Err, ap, sym}
use Rattle.std.proofs.lemmas.Result.{err_from_is_err_and}
use Rattle.fl_types.specs.Types.{is_integer}
use Rattle.fl_column.specs.Operations.{ranges_total}
use Rattle.fl_array.specs.Trees.{column}
use Rattle.fl_ops.proofs.Filters.{refused_as}
use Rattle.fl_ops.proofs.array_ops.ArrayRefArrayOps.take_ranges.Goals as goal

pub returns-in_err-ranges_total-clause-refused : goal.returns-in_err-ranges_total-clause-refused
returns-in_err-ranges_total-clause-refused c e h =
    let p = err_from_is_err_and c.from_residual.result c.from_residual.ensures.1 in
    let whole = ap is_integer (sym c.dtype.ensures ∙ c.in-Primitive.is) in
    let total = ap (λ n. ranges_total n c.args.ranges.now) (sym c.len.ensures) ∙ sym c.ranges_total.ensures.value ∙ c.in_err-ranges_total.was in
    p.1 ∙ ap (λ x. Err x) (p.2 ∙ refused_as c.args.ranges.now (column c.args.self.now) e c.in_err-ranges_total.field-0.0 whole total h)
