use Rattle.std.proofs.Common.{◌≡◌, [], subst, ap, ◌∙◌}
use Rattle.std.specs.Prelude.{IfOk}
use Rattle.fl_statistics.specs.BitStatistics.{bit_statistics}
use Rattle.fl_statistics.specs.Differences.{deltas_of, less_references}
use Rattle.fl_statistics.proofs.DeltaBlocks.{less_zero}
use Rattle.fl_statistics.proofs.deltas.statistics_typed.Goals as goal

pub returns : goal.returns
returns g c =
    let p = c.args.array.now in
    subst (λ items. IfOk c.delta_statistics_less.result (λ s. s ≡ bit_statistics p.ptype items)) (ap (λ z. less_references p.ptype z [] (deltas_of p)) c.zero.ensures ∙ less_zero p) c.delta_statistics_less.ensures
