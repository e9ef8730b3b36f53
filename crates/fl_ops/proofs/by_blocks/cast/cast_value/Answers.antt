use Rattle.std.proofs.Common.{◌∙◌, sym, subst, rules, FitsSigned}
use Rattle.std.specs.Int.{w128}
use Rattle.std.proofs.lemmas.Int.{to_z-of_z}
use Rattle.fl_column.proofs.CastLaws.{checked}
use Rattle.fl_ops.proofs.by_blocks.cast.cast_value.Goals as goal

pub returns : goal.returns
returns g c =
    let z = c.args.value in
    let fit : FitsSigned w128 z = search rules in
    checked g.T.Number.value g.T.Number.fits g.T.NativePType.PTYPE z c.from_i128.result
    (λ f. sym (g.met.T.NativePType.wraps_law z) ∙ g.met.T.Integral.wrap_law z f)
    (λ e. subst g.T.Number.fits (g.met.T.NativePType.wraps_law z ∙ e) (g.met.T.Integral.wrap_fits_law z))
    (simp to_z-of_z at c.from_i128.ensures)
