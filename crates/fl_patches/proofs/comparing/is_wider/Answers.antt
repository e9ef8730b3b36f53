use Rattle.std.proofs.Common.{◌∙◌}
use Rattle.fl_patches.proofs.Comparisons.{pattern_fits, wider_test}
use Rattle.fl_patches.proofs.comparing.is_wider.Goals as goal

pub returns : goal.returns
returns g c = c.at_most.ensures ∙ (rw (c.requires.bound, c.to_physical.ensures) (wider_test c.args._width _ (pattern_fits g.T.NativePType.PTYPE (g.T.Number.value c.args.item))))
