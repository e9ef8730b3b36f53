use Rattle.std.proofs.Common.{◌≡◌, ℕ, ◌+◌, ◌<◌, length}
use Rattle.fastlanes.specs.Layout.{pattern_at, word_at}
use Rattle.fastlanes.proofs.storage.read_sixteen.Given as goal

-- the words so far
abbrev pub invariant-loop-j : goal.invariant-loop-j
invariant-loop-j g l = record {
  whole : length l.words ≡ 16;
  read : (k : ℕ) → k < l.j → pattern_at g.W.FastLanes.pattern l.words k ≡ word_at g.W.FastLanes.T l.bytes (l.at + k);
}
