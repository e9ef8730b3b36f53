use Rattle.std.proofs.Common.{◌<◌, ℕ}
use Rattle.fastlanes.specs.Delta.{Transposed}
use Rattle.fl_blocks.specs.Blocks.{items_of}
use Rattle.fl_blocks.proofs.transposing.untranspose_each.Given as goal

-- the blocks so far
abbrev pub invariant-loop-k : goal.invariant-loop-k
invariant-loop-k g l =
    let pattern = g.W.FastLanes.pattern in
    let T = g.W.FastLanes.T in
    let lanes = g.W.FastLanes.LANES in
    (j : ℕ) → j < l.k → Transposed T lanes (items_of pattern l.blocks j) (items_of pattern l.stored j)
