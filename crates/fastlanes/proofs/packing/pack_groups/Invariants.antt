use Rattle.std.proofs.Common.{◌≡◌, ℕ, ◌*◌, ◌<◌, length}
use Rattle.fastlanes.specs.Layout.{pattern_at}
use Rattle.fastlanes.specs.Rows.{packed_word, word_index}
use Rattle.fastlanes.proofs.packing.pack_groups.Given as goal

abbrev pub invariant-loop-g : goal.invariant-loop-g
invariant-loop-g g l = record {
  written : (s m : ℕ) → s < l.width → m < 16 * l.g → g.S.Storage.word l.packed (word_index g.W.FastLanes.LANES s m) ≡ packed_word g.W.FastLanes.T l.width (pattern_at g.W.FastLanes.pattern l.items) s m;
  whole : g.S.Storage.count (length l.packed) ≡ l.width * g.W.FastLanes.LANES;
}
