use Rattle.std.proofs.Common.{◌≡◌, ◌⊎◌, ℕ, ◌+◌, ◌*◌, ◌<◌, ◌≤◌, length}
use Rattle.fastlanes.specs.Layout.{pattern_at}
use Rattle.fastlanes.proofs.deltas.items.store_lane.Given as goal

abbrev pub invariant-loop-k : goal.invariant-loop-k
invariant-loop-k g l = record {
  lane : (m : ℕ) → m < l.k → pattern_at g.W.FastLanes.pattern l.items (l.at + m) ≡ pattern_at g.W.FastLanes.pattern l.rows (16 * m + l.j);
  others : (i : ℕ) → (i < l.at) ⊎ (l.at + 4 ≤ i) → pattern_at g.W.FastLanes.pattern l.items i ≡ pattern_at g.W.FastLanes.pattern l.initial.items i;
  whole : length l.items ≡ 1024;
}
