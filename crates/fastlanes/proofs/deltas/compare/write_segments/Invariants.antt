use Rattle.std.proofs.Common.{◌≡◌, ℕ, ◌+◌, ◌*◌, ◌/◌, ◌<◌, length}
use Rattle.fastlanes.specs.Layout.{pattern_at, segment, word_at}
use Rattle.fastlanes.proofs.deltas.compare.write_segments.Given as goal

abbrev pub invariant-loop-j : goal.invariant-loop-j
invariant-loop-j g l = record {
  put : (k : ℕ) → k < l.j → word_at g.W.FastLanes.T l.bytes (segment (16 * l.g + k) / g.W.FastLanes.T) ≡ pattern_at g.W.FastLanes.pattern l.words k;
  others : (m : ℕ) → m < 16 * l.g → word_at g.W.FastLanes.T l.bytes (segment m / g.W.FastLanes.T) ≡ word_at g.W.FastLanes.T l.initial.bytes (segment m / g.W.FastLanes.T);
  whole : length l.bytes ≡ 128;
}
