use Rattle.std.proofs.Common.{◌≡◌, ◌<◌, ℕ}
use Rattle.fastlanes.specs.Layout.{place}
use Rattle.fastlanes.specs.Delta.{summed_item}
use Rattle.fl_blocks.specs.Blocks.{items_of, words_of}
use Rattle.fl_blocks.proofs.deltas.undelta_each.Given as goal

-- the blocks so far
abbrev pub invariant-loop-k : goal.invariant-loop-k
invariant-loop-k g l =
    let pattern = g.W.FastLanes.pattern in
    let T = g.W.FastLanes.T in
    let lanes = g.W.FastLanes.LANES in
    (j r q : ℕ) → j < l.k → r < T → q < lanes → items_of pattern l.blocks j (place r q) ≡ summed_item T (words_of pattern lanes l.bases j) (items_of pattern l.deltas j) r q
