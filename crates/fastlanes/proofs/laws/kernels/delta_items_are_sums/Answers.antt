use Rattle.fastlanes.proofs.Segments.{items_of_sums}
use Rattle.fastlanes.proofs.laws.kernels.delta_items_are_sums.Goals as goal

pub returns : goal.returns
returns g c base item stored delta each transposed = items_of_sums g.W.FastLanes.T g.W.FastLanes.LANES base delta item stored g.met.W.FastLanes.shape each transposed
