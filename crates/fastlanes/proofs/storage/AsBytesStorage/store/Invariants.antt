use Rattle.std.proofs.Common.{◌≡◌, ◌⊎◌, ℕ, ◌+◌, ◌<◌, ◌≤◌, length}
use Rattle.fastlanes.specs.Layout.{pattern_at, word_at}
use Rattle.fastlanes.proofs.storage.AsBytesStorage.store.Given as goal

-- the words so far
abbrev pub invariant-loop-j : goal.invariant-loop-j
invariant-loop-j g l = record {
  room : length l.units ≡ length l.initial.units;
  put : (k : ℕ) → k < l.j → word_at g.W.FastLanes.T l.units (l.at + k) ≡ pattern_at g.W.FastLanes.pattern l.words k;
  others : (i : ℕ) → (i < l.at) ⊎ (l.at + 16 ≤ i) → word_at g.W.FastLanes.T l.units i ≡ word_at g.W.FastLanes.T l.initial.units i;
}
