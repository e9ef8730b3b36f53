use Rattle.std.proofs.Common.{◌≡◌, ℕ, ◌*◌, ◌<◌}
use Rattle.fastlanes.specs.Layout.{place, pattern_at}
use Rattle.fastlanes.specs.Delta.{item_delta}
use Rattle.fastlanes.proofs.deltas.delta.Given as goal

abbrev pub invariant-loop-g : goal.invariant-loop-g
invariant-loop-g g l = record {
  written : (s m : ℕ) → s < g.W.FastLanes.T → m < 16 * l.g → pattern_at g.W.FastLanes.pattern l.deltas (place s m) ≡ item_delta g.W.FastLanes.T (pattern_at g.W.FastLanes.pattern l.bases) (pattern_at g.W.FastLanes.pattern l.items) s m;
}
