use Rattle.fastlanes.proofs.Wholes.{one_item, one_stored}
use Rattle.fastlanes.proofs.laws.kernels.one_transposition.Goals as goal

pub returns-clause-items : goal.returns-clause-items
returns-clause-items g c item other stored = one_item _ _ item other stored g.met.W.FastLanes.shape

pub returns-clause-stored : goal.returns-clause-stored
returns-clause-stored g c item stored other = one_stored _ _ item stored other g.met.W.FastLanes.shape
