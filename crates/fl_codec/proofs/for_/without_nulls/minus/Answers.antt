use Rattle.std.proofs.Common.{◌∙◌}
use Rattle.fl_codec.proofs.for_.without_nulls.minus.Goals as goal

pub returns : goal.returns
returns g c = g.met.T.WrappingSub.wrapping_sub_law _ _ _ c.wrapping_sub.ensures ∙ g.met.T.NativePType.wraps_law _
