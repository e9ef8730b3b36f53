use Rattle.std.proofs.Common.{◌≡◌, ℕ, ◌+◌, ◌*◌, ◌/◌, ◌%◌, ◌<◌, length}
use Rattle.fastlanes.specs.Layout.{pattern_at}
use Rattle.fastlanes.specs.Delta.{summed_before, summed_item}
use Rattle.fastlanes.proofs.deltas.items.sum_four.Given as goal

abbrev pub invariant-loop-k : goal.invariant-loop-k
invariant-loop-k g l = record {
  sums : (j : ℕ) → j < 16 → g.W.FastLanes.lane l.sums j ≡ summed_before g.W.FastLanes.T (pattern_at g.W.FastLanes.pattern l.bases) (pattern_at g.W.FastLanes.pattern l.deltas) (l.r + l.k) (16 * l.g + j);
  rows : (i : ℕ) → i < 16 * l.k → pattern_at g.W.FastLanes.pattern l.rows i ≡ summed_item g.W.FastLanes.T (pattern_at g.W.FastLanes.pattern l.bases) (pattern_at g.W.FastLanes.pattern l.deltas) (l.r + i / 16) (16 * l.g + i % 16);
  whole : length l.rows ≡ 64;
}
