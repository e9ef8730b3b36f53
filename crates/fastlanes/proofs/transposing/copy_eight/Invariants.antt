use Rattle.std.proofs.Common.{◌≡◌, ℕ, ◌+◌, ◌*◌, ◌<◌, length}
use Rattle.fastlanes.specs.Layout.{pattern_at}
use Rattle.fastlanes.specs.Delta.{gathered_from}
use Rattle.fastlanes.proofs.transposing.copy_eight.Given as goal

abbrev pub invariant-loop-c : goal.invariant-loop-c
invariant-loop-c g l = record {
  done : (j : ℕ) → j < 8 * l.h + l.c → pattern_at g.W.FastLanes.pattern l.items j ≡ pattern_at g.W.FastLanes.pattern l.gathered (gathered_from j);
  whole : length l.items ≡ 1024;
}
