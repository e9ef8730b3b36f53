use Rattle.std.proofs.Common.{◌≡◌, ℕ, ◌+◌, ◌*◌, ◌<◌}
use Rattle.fastlanes.specs.Layout.{place, pattern_at}
use Rattle.fastlanes.specs.Delta.{item_before, item_delta}
use Rattle.fastlanes.specs.Rows.{WritesRows}
use Rattle.fastlanes.proofs.deltas.delta_group.Given as goal

abbrev pub invariant-loop-q : goal.invariant-loop-q
invariant-loop-q g l = record {
  before : (j : ℕ) → j < 16 → g.W.FastLanes.lane l.before j ≡ item_before (pattern_at g.W.FastLanes.pattern l.bases) (pattern_at g.W.FastLanes.pattern l.items) (8 * l.q) (16 * l.g + j);
  written : WritesRows g.W.FastLanes.T g.W.FastLanes.LANES place (item_delta g.W.FastLanes.T (pattern_at g.W.FastLanes.pattern l.bases) (pattern_at g.W.FastLanes.pattern l.items)) l.g 0 (8 * l.q) (pattern_at g.W.FastLanes.pattern l.initial.deltas) (pattern_at g.W.FastLanes.pattern l.deltas);
}
