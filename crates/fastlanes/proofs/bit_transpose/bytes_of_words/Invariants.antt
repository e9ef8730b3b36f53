use Rattle.std.proofs.Common.{◌≡◌, ℕ, ◌<◌, length}
use Rattle.std.specs.Prelude.{slice_index}
use Rattle.fastlanes.specs.Layout.{word_at}
use Rattle.fastlanes.proofs.bit_transpose.bytes_of_words.Given as goal

abbrev pub invariant-loop-k : goal.invariant-loop-k
invariant-loop-k l = record {
  put : (j : ℕ) → j < l.k → word_at 64 l.bytes j ≡ slice_index l.words j;
  whole : length l.bytes ≡ 128;
}
