use Rattle.std.proofs.Common.{◌≡◌, ℕ, ◌+◌, ◌*◌, ◌<◌, length}
use Rattle.fastlanes.specs.Layout.{pattern_at, word_at}
use Rattle.fastlanes.proofs.compare.write_group.Given as goal

abbrev pub invariant-loop-j : goal.invariant-loop-j
invariant-loop-j g l = record {
  put : (k : ℕ) → k < l.j → word_at g.W.FastLanes.T l.bytes (16 * l.g + k) ≡ pattern_at g.W.FastLanes.pattern l.words k;
  others : (k : ℕ) → k < 16 * l.g → word_at g.W.FastLanes.T l.bytes k ≡ word_at g.W.FastLanes.T l.initial.bytes k;
  whole : length l.bytes ≡ 128;
}
