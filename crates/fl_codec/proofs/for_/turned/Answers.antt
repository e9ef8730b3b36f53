use Rattle.std.proofs.Common.{Some, ap, ◌∙◌}
use Rattle.fl_codec.proofs.for_.turned.Goals as goal

pub returns-in-Some : goal.returns-in-Some
returns-in-Some g c = rw c.in-Some.is (ap Some (g.met.T.WrappingSub.wrapping_sub_law _ _ _ c.wrapping_sub.ensures ∙ g.met.T.NativePType.wraps_law _))
