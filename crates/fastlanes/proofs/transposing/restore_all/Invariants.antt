use Rattle.std.proofs.Common.{◌≡◌, ℕ, ◌*◌, ◌<◌, length}
use Rattle.fastlanes.specs.Layout.{pattern_at}
use Rattle.fastlanes.specs.Delta.{moved_to}
use Rattle.fastlanes.proofs.transposing.restore_all.Given as goal

abbrev pub invariant-loop-l : goal.invariant-loop-l
invariant-loop-l g l = record {
  done : (j : ℕ) → j < 64 * l.l → pattern_at g.W.FastLanes.pattern l.items j ≡ pattern_at g.W.FastLanes.pattern l.stored (moved_to j);
  whole : length l.items ≡ 1024;
}
