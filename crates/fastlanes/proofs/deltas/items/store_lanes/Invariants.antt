use Rattle.std.proofs.Common.{◌≡◌, ◌⊎◌, ℕ, ◌+◌, ◌*◌, ◌%◌, ◌<◌, ◌≤◌}
use Rattle.fastlanes.specs.Layout.{pattern_at}
use Rattle.fastlanes.proofs.deltas.items.store_lanes.Given as goal

abbrev pub invariant-loop-j : goal.invariant-loop-j
invariant-loop-j g l = record {
  lanes : (n k : ℕ) → n < l.j → k < 4 → pattern_at g.W.FastLanes.pattern l.items (64 * n + l.at + k) ≡ pattern_at g.W.FastLanes.pattern l.rows (16 * k + n);
  others : (i : ℕ) → (i % 64 < l.at) ⊎ (l.at + 4 ≤ i % 64) → pattern_at g.W.FastLanes.pattern l.items i ≡ pattern_at g.W.FastLanes.pattern l.initial.items i;
}
