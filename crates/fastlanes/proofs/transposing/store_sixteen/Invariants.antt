use Rattle.std.proofs.Common.{◌≡◌, ℕ, ◌+◌, ◌*◌, ◌<◌, length}
use Rattle.fastlanes.specs.Layout.{pattern_at}
use Rattle.fastlanes.specs.Delta.{moved_from}
use Rattle.fastlanes.proofs.transposing.store_sixteen.Given as goal

abbrev pub invariant-loop-a : goal.invariant-loop-a
invariant-loop-a g l = record {
  done : (j : ℕ) → j < 16 * l.g + l.a → pattern_at g.W.FastLanes.pattern l.stored j ≡ pattern_at g.W.FastLanes.pattern l.items (moved_from j);
  whole : length l.stored ≡ 1024;
}
