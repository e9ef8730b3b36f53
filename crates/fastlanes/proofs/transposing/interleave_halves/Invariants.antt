use Rattle.std.proofs.Common.{◌≡◌, ℕ, ◌+◌, ◌*◌, ◌/◌, ◌%◌, ◌<◌, length}
use Rattle.fastlanes.specs.Layout.{pattern_at}
use Rattle.fastlanes.proofs.transposing.interleave_halves.Given as goal

abbrev pub invariant-loop-k : goal.invariant-loop-k
invariant-loop-k g l = record {
  in_turn : (i : ℕ) → i < 32 * l.k → pattern_at g.W.FastLanes.pattern l.target i ≡ pattern_at g.W.FastLanes.pattern l.words (i / 2 + 512 * (i % 2));
  whole : length l.target ≡ 1024;
}
