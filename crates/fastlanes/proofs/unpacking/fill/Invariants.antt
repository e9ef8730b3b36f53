use Rattle.std.proofs.Common.{◌≡◌, ℕ, ◌<◌, length}
use Rattle.fastlanes.specs.Layout.{pattern_at}
use Rattle.fastlanes.proofs.unpacking.fill.Given as goal

abbrev pub invariant-loop-i : goal.invariant-loop-i
invariant-loop-i g l = record {
  done : (j : ℕ) → j < l.i → pattern_at g.W.FastLanes.pattern l.items j ≡ g.W.FastLanes.pattern l.word;
  whole : length l.items ≡ 1024;
}
