use Rattle.std.proofs.Common.{◌≡◌, ◌*◌, ◌<◌, ℕ, length}
use Rattle.fastlanes.specs.Layout.{Packed}
use Rattle.fl_blocks.specs.Blocks.{items_of, words_of}
use Rattle.fl_blocks.proofs.packing.pack_each.Given as goal

-- the blocks so far
abbrev pub invariant-loop-k : goal.invariant-loop-k
invariant-loop-k g l =
    let pattern = g.W.FastLanes.pattern in
    let T = g.W.FastLanes.T in
    let lanes = g.W.FastLanes.LANES in
    record {
      whole : length l.packed ≡ length l.blocks * (l.width * lanes);
      each : (j : ℕ) → j < l.k → Packed T lanes l.width (items_of pattern l.blocks j) (words_of pattern (l.width * lanes) l.packed j);
    }
