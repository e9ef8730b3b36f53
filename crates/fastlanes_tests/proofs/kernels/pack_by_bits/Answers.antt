use Rattle.std.proofs.Common.{arith}
use Rattle.fastlanes_tests.proofs.Shapes.{some_lanes}
use Rattle.fastlanes_tests.proofs.kernels.pack_by_bits.Goals as goal

pub nonzero_div-m : goal.nonzero_div-m
nonzero_div-m g c = let some = some_lanes g.W.FastLanes.T g.W.FastLanes.LANES g.met.W.FastLanes.shape in omega arith

pub nonzero_rem-m : goal.nonzero_rem-m
nonzero_rem-m g c = let some = some_lanes g.W.FastLanes.T g.W.FastLanes.LANES g.met.W.FastLanes.shape in omega arith
