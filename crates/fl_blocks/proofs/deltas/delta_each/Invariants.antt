use Rattle.std.proofs.Common.{◌≡◌, ◌<◌, ℕ}
use Rattle.fastlanes.specs.Layout.{place}
use Rattle.fastlanes.specs.Delta.{item_delta}
use Rattle.fl_blocks.specs.Blocks.{items_of, words_of}
use Rattle.fl_blocks.proofs.deltas.delta_each.Given as goal

-- the blocks so far
abbrev pub invariant-loop-k : goal.invariant-loop-k
invariant-loop-k g l =
    let pattern = g.W.FastLanes.pattern in
    let T = g.W.FastLanes.T in
    let lanes = g.W.FastLanes.LANES in
    (j r q : ℕ) → j < l.k → r < T → q < lanes → items_of pattern l.deltas j (place r q) ≡ item_delta T (words_of pattern lanes l.bases j) (items_of pattern l.blocks j) r q
