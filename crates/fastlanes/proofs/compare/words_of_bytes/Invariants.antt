use Rattle.std.proofs.Common.{◌≡◌, ℕ, ◌<◌, length}
use Rattle.std.specs.Prelude.{slice_index}
use Rattle.fastlanes.specs.Layout.{word_at}
use Rattle.fastlanes.proofs.compare.words_of_bytes.Given as goal

abbrev pub invariant-loop-k : goal.invariant-loop-k
invariant-loop-k l = record {
  words : (i : ℕ) → i < l.k → slice_index l.words i ≡ word_at 64 l.bytes i;
  whole : length l.words ≡ 16;
}
