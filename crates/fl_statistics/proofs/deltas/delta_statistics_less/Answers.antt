use Rattle.std.proofs.Common.{map, ap, sym, ◌∙◌}
use Rattle.fl_statistics.specs.BitStatistics.{bit_statistics}
use Rattle.fl_statistics.specs.Differences.{deltas_of, less_references}
use Rattle.fl_statistics.proofs.deltas.delta_statistics_less.Goals as goal

pub returns : goal.returns
returns g c =
    let p = c.args.array.now in
    c.statistics_of.ensures ∙ ap (λ u. bit_statistics u (less_references u (g.T.Number.value c.args.one) (map g.T.Number.value c.args.references.now) (deltas_of p))) (sym c.requires)
