use Rattle.std.proofs.Common.{◌≡◌, ℕ, ◌*◌, ◌<◌}
use Rattle.fastlanes.specs.Layout.{place, pattern_at}
use Rattle.fastlanes.specs.Rows.{item_with_reference}
use Rattle.fastlanes.proofs.unpacking.unpack_groups.Given as goal

abbrev pub invariant-loop-g : goal.invariant-loop-g
invariant-loop-g g l = record {
  written : (s m : ℕ) → s < g.W.FastLanes.T → m < 16 * l.g → pattern_at g.W.FastLanes.pattern l.items (place s m) ≡ item_with_reference g.W.FastLanes.T g.W.FastLanes.LANES l.width (g.S.Storage.word l.words) (g.W.FastLanes.lane l.reference) s m;
}
