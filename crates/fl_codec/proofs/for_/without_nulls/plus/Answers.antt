use Rattle.std.proofs.Common.{◌∙◌}
use Rattle.fl_codec.proofs.for_.without_nulls.plus.Goals as goal

pub returns : goal.returns
returns g c = g.met.T.WrappingAdd.wrapping_add_law _ _ _ c.wrapping_add.ensures ∙ g.met.T.NativePType.wraps_law _
