use Rattle.std.proofs.Common.{◌≡◌, ℕ, ◌+◌, ◌*◌, ◌<◌}
use Rattle.fastlanes.specs.Layout.{segment, pattern_at}
use Rattle.fastlanes.specs.Delta.{summed_item}
use Rattle.fastlanes.proofs.deltas.items.undelta_to_items.Given as goal

abbrev pub invariant-loop-g : goal.invariant-loop-g
invariant-loop-g g l = record {
  written : (s m : ℕ) → s < g.W.FastLanes.T → m < 16 * l.g → pattern_at g.W.FastLanes.pattern l.items (segment m + s) ≡ summed_item g.W.FastLanes.T (pattern_at g.W.FastLanes.pattern l.bases) (pattern_at g.W.FastLanes.pattern l.deltas) s m;
}
