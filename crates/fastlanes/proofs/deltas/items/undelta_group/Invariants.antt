use Rattle.std.proofs.Common.{◌≡◌, ℕ, ◌+◌, ◌*◌, ◌<◌}
use Rattle.fastlanes.specs.Layout.{pattern_at}
use Rattle.fastlanes.specs.Delta.{item_place, summed_before, summed_item}
use Rattle.fastlanes.specs.Rows.{WritesRows}
use Rattle.fastlanes.proofs.deltas.items.undelta_group.Given as goal

abbrev pub invariant-loop-q : goal.invariant-loop-q
invariant-loop-q g l = record {
  sums : (j : ℕ) → j < 16 → g.W.FastLanes.lane l.sums j ≡ summed_before g.W.FastLanes.T (pattern_at g.W.FastLanes.pattern l.bases) (pattern_at g.W.FastLanes.pattern l.deltas) (4 * l.q) (16 * l.g + j);
  written : WritesRows g.W.FastLanes.T g.W.FastLanes.LANES item_place (summed_item g.W.FastLanes.T (pattern_at g.W.FastLanes.pattern l.bases) (pattern_at g.W.FastLanes.pattern l.deltas)) l.g 0 (4 * l.q) (pattern_at g.W.FastLanes.pattern l.initial.items) (pattern_at g.W.FastLanes.pattern l.items);
}
