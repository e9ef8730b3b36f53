use Rattle.std.proofs.Common.{◌≡◌, ◌⊎◌, ℕ, ◌+◌, ◌*◌, ◌%◌, ◌<◌, ◌≤◌}
use Rattle.fastlanes.specs.Layout.{pattern_at}
use Rattle.fastlanes.proofs.deltas.items.store_runs.Given as goal

abbrev pub invariant-loop-j : goal.invariant-loop-j
invariant-loop-j g l = record {
  runs : (n k : ℕ) → n < l.j → k < 4 → pattern_at g.W.FastLanes.pattern l.items (64 * n + l.at + k) ≡ pattern_at g.W.FastLanes.pattern l.turned (4 * n + k);
  others : (i : ℕ) → (i % 64 < l.at) ⊎ (l.at + 4 ≤ i % 64) → pattern_at g.W.FastLanes.pattern l.items i ≡ pattern_at g.W.FastLanes.pattern l.initial.items i;
}
