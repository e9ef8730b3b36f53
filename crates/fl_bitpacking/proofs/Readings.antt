-- Laws of what a counted reader has read.
use Rattle.std.proofs.Common.{◌≡◌, ℕ, ◌+◌, ◌≤◌, ◌<◌, ◌∙◌, min, ap, inl, inr, arith}
use Rattle.std.proofs.lemmas.Bool.{cases_eq}
use Rattle.fastlanes.specs.Layout.{row_of, words_of_item}
use Rattle.fastlanes.specs.SingleItems.{words_at}
use Rattle.fastlanes.proofs.SingleItems.{words_at_none, words_at_some}
use Rattle.fl_bitpacking.specs.Readings.{AreFewBlocks, Reading, more_blocks, with_blocks}

-- a number of words, by the words that hold an item
pub words_counted : (T lanes width index old new : ℕ) → old ≤ 18446744073709551615 → (width ≡ 0 → new ≡ old) → (0 < width → new ≡ min (old + words_of_item T width (row_of lanes index)) 18446744073709551615)
    → new ≡ min (old + words_at T lanes width index) 18446744073709551615
words_counted T lanes width index old new fits none some = elim (cases_eq width 0) [
  | inl empty ↦ rw (words_at_none T lanes width index empty) (let is = none empty in omega arith)
  | inr more ↦ let more : 0 < width = omega arith in rw (words_at_some T lanes width index more) (some more)
]

-- no block more
pub none_read : (r : Reading) → r.blocks ≤ 18446744073709551615 → r ≡ more_blocks 0 r
none_read r fits = ap (λ (k : ℕ). with_blocks k r) (let is : r.blocks ≡ min (r.blocks + 0) 18446744073709551615 = omega arith in is)

-- blocks that are read after others
pub read_again : (a b n : ℕ) (r : Reading) → a + b ≡ n → more_blocks b (more_blocks a r) ≡ more_blocks n r
read_again a b n r sum = ap (λ (k : ℕ). with_blocks k r) (let is : min (min (r.blocks + a) 18446744073709551615 + b) 18446744073709551615 ≡ min (r.blocks + n) 18446744073709551615 = omega arith in is)

-- a reader that has read more blocks, after one that had read some
pub read_after : (old now new : Reading) (a b n : ℕ) → now ≡ more_blocks a old → new ≡ more_blocks b now → a + b ≡ n → new ≡ more_blocks n old
read_after old now new a b n begun more sum = more ∙ (ap (more_blocks b) begun ∙ read_again a b n old sum)

-- the bytes stay the same
pub bytes_kept : (old new : Reading) (n : ℕ) → new ≡ more_blocks n old → new.bytes ≡ old.bytes
bytes_kept old new n read = ap (λ (r : Reading). r.bytes) read

-- blocks that are counted, of which there are at most so many
pub few_read : (old new : Reading) (n most : ℕ) → new ≡ more_blocks n old → n ≤ most → AreFewBlocks most old new
few_read old new n most read few = record {
  bytes = ap (λ (r : Reading). r.bytes) read;
  blocks = let is = ap (λ (r : Reading). r.blocks) read in omega arith;
  words = ap (λ (r : Reading). r.words) read;
}
