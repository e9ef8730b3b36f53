use Rattle.std.proofs.Common.{◌≡◌, ℕ, ◌*◌, ◌^◌, ◌<◌, length}
use Rattle.fastlanes.specs.Layout.{pattern_at}
use Rattle.fastlanes.proofs.unpacking.copy_words.Given as goal

abbrev pub invariant-loop-m : goal.invariant-loop-m
invariant-loop-m g l = record {
  done : (i : ℕ) → i < 16 * l.m → pattern_at g.W.FastLanes.pattern l.items i ≡ g.S.Storage.word l.words i;
  small : (i : ℕ) → i < 16 * l.m → g.S.Storage.word l.words i < 2 ^ g.W.FastLanes.T;
  whole : length l.items ≡ 1024;
}
