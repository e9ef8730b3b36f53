use Rattle.std.proofs.Common.{map, ap, sym, ◌∙◌}
use Rattle.fl_column.specs.Queries.{are_constant}
use Rattle.fl_statistics.specs.Differences.{deltas_of, less_references}
use Rattle.fl_statistics.proofs.deltas.is_delta_constant_less.Goals as goal

pub returns : goal.returns
returns g c =
    let p = c.args.array.now in
    c.is_constant.ensures ∙ ap (λ u. are_constant (less_references u (g.T.Number.value c.args.one) (map g.T.Number.value c.args.references.now) (deltas_of p))) (sym c.requires)
