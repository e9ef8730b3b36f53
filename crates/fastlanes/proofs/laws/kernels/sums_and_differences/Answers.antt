use Rattle.fastlanes.proofs.DeltaRows.{sums_back, differences_back}
use Rattle.fastlanes.proofs.laws.kernels.sums_and_differences.Goals as goal

pub returns-clause-sums : goal.returns-clause-sums
returns-clause-sums g c base item delta low items each r l p q = sums_back g.W.FastLanes.T g.W.FastLanes.LANES base item delta r l p q low items each

pub returns-clause-differences : goal.returns-clause-differences
returns-clause-differences g c base item delta low deltas each r l p q = differences_back g.W.FastLanes.T g.W.FastLanes.LANES base item delta r l p q (low l q) (deltas r l p q) each
