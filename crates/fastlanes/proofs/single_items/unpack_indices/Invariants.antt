use Rattle.std.proofs.Common.{◌≡◌, ℕ, ◌+◌, ◌*◌, ◌<◌, ◌≤◌, min}
use Rattle.std.specs.Prelude.{slice_index}
use Rattle.fastlanes.specs.Layout.{pattern_at, unpacked_item}
use Rattle.fastlanes.specs.SingleItems.{words_of_items}
use Rattle.fastlanes.proofs.single_items.unpack_indices.Given as goal

abbrev pub invariant-loop-n : goal.invariant-loop-n
invariant-loop-n g l = record {
  done : (j : ℕ) → j < l.n → pattern_at g.W.FastLanes.pattern l.items j ≡ unpacked_item g.W.FastLanes.T g.W.FastLanes.LANES l.width (pattern_at g.W.FastLanes.pattern l.words) (slice_index l.indices j);
  words : l.work.words ≡ min (l.initial.work.words + words_of_items g.W.FastLanes.T g.W.FastLanes.LANES l.width (slice_index l.indices) l.n) 18446744073709551615;
  few : l.work.words ≤ l.initial.work.words + 2 * l.n;
  blocks : l.work.blocks ≡ l.initial.work.blocks;
}
