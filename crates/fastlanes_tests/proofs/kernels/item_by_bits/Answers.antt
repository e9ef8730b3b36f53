use Rattle.std.proofs.Common.{arith}
use Rattle.fastlanes_tests.proofs.Shapes.{some_rows}
use Rattle.fastlanes_tests.proofs.kernels.item_by_bits.Goals as goal

pub nonzero_div-at : goal.nonzero_div-at
nonzero_div-at g c = let some = some_rows g.W.FastLanes.T g.W.FastLanes.LANES g.met.W.FastLanes.shape in omega arith

pub nonzero_rem-on : goal.nonzero_rem-on
nonzero_rem-on g c = let some = some_rows g.W.FastLanes.T g.W.FastLanes.LANES g.met.W.FastLanes.shape in omega arith
