use Rattle.std.proofs.Common.{arith}
use Rattle.fastlanes_tests.proofs.Shapes.{some_bytes}
use Rattle.fastlanes_tests.proofs.kernels.hold.Goals as goal

pub nonzero_div-bytes : goal.nonzero_div-bytes
nonzero_div-bytes g c = let some = some_bytes g.W.FastLanes.T g.W.FastLanes.LANES g.met.W.FastLanes.shape in omega arith
