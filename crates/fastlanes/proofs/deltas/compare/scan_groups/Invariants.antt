use Rattle.std.proofs.Common.{◌≡◌, ℕ, ◌*◌, ◌/◌, ◌<◌}
use Rattle.fastlanes.specs.Layout.{pattern_at, segment, word_at}
use Rattle.fastlanes.specs.Delta.{summed_item}
use Rattle.fastlanes.specs.Compared.{is_bit_set}
use Rattle.fastlanes.proofs.deltas.compare.scan_groups.Given as goal

abbrev pub invariant-loop-g : goal.invariant-loop-g
invariant-loop-g g l = record {
  set : (r m : ℕ) → r < g.W.FastLanes.T → m < 16 * l.g → (x : _) → g.W.FastLanes.pattern x ≡ summed_item g.W.FastLanes.T (pattern_at g.W.FastLanes.pattern l.bases) (pattern_at g.W.FastLanes.pattern l.deltas) r m → goal.F-post g l.cmp x l.rhs (is_bit_set (word_at g.W.FastLanes.T l.bytes (segment m / g.W.FastLanes.T)) r);
}
