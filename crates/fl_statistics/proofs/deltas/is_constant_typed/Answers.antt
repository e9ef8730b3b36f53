use Rattle.std.proofs.Common.{◌≡◌, [], subst, ap, ◌∙◌}
use Rattle.std.specs.Prelude.{IfOk}
use Rattle.fl_column.specs.Queries.{are_constant}
use Rattle.fl_statistics.specs.Differences.{deltas_of, less_references}
use Rattle.fl_statistics.proofs.DeltaBlocks.{less_zero}
use Rattle.fl_statistics.proofs.deltas.is_constant_typed.Goals as goal

pub returns : goal.returns
returns g c =
    let p = c.args.array.now in
    subst (λ items. IfOk c.is_delta_constant_less.result (λ constant. constant ≡ are_constant items)) (ap (λ z. less_references p.ptype z [] (deltas_of p)) c.zero.ensures ∙ less_zero p) c.is_delta_constant_less.ensures
