-- The lanes of vectors of sixteen words.
use Rattle.std.proofs.Common.{◌≡◌, ◌⊎◌, ℕ, ◌+◌, ◌<◌, ◌≤◌, List, length, replicate, ◌∙◌, ap, sym}
use Rattle.std.specs.Prelude.{slice_index}
use Rattle.std.specs.Simd.Lanes.{zip2, put_chunk, chunk}
use Rattle.std.proofs.lemmas.Simd.{get_or-put_chunk_at, get_or-zip2, get_or-chunk, length-replicate, get_or-replicate}
use Rattle.fastlanes.specs.Layout.{pattern_at}
use Rattle.fastlanes.proofs.Vectors.{pattern_at_number, stored_elsewhere}

pub loaded : (xs : List ℕ) (at j : ℕ) → j < 16 → slice_index (chunk at 16 xs) j ≡ pattern_at (λ x. x) xs (at + j)
loaded xs at j h = get_or-chunk at 16 xs j 0 h ∙ sym (pattern_at_number xs (at + j))

pub stored : (xs zs : List ℕ) (at j : ℕ) → j < 16 → at + 16 ≤ length xs → length zs ≡ 16 → pattern_at (λ x. x) (put_chunk at xs zs) (at + j) ≡ slice_index zs j
stored xs zs at j h p long = pattern_at_number (put_chunk at xs zs) (at + j) ∙ get_or-put_chunk_at at xs zs j 0 (rw long h) (rw long p)

pub stored_others : (xs zs : List ℕ) (at i : ℕ) → length zs ≡ 16 → (i < at) ⊎ (at + 16 ≤ i) → pattern_at (λ x. x) (put_chunk at xs zs) i ≡ pattern_at (λ x. x) xs i
stored_others xs zs at i long away = stored_elsewhere xs zs at i long away

pub splatted : (s j : ℕ) → j < 16 → slice_index (replicate 16 s) j ≡ s
splatted s j h = get_or-replicate 16 j s 0 h

-- an operator on each lane
pub zipped : (f : ℕ → ℕ → ℕ) (xs ys : List ℕ) (j : ℕ) → j < 16 → length xs ≡ 16 → length ys ≡ 16 → slice_index (zip2 f xs ys) j ≡ f (slice_index xs j) (slice_index ys j)
zipped f xs ys j h a b = get_or-zip2 f xs ys j 0 0 0 (rw a h) (rw b h)

-- the same, with one number in each lane of the second vector
pub zipped_splat : (f : ℕ → ℕ → ℕ) (xs : List ℕ) (s j : ℕ) → j < 16 → length xs ≡ 16 → slice_index (zip2 f xs (replicate 16 s)) j ≡ f (slice_index xs j) s
zipped_splat f xs s j h a = zipped f xs (replicate 16 s) j h a (length-replicate 16 s) ∙ ap (f (slice_index xs j)) (splatted s j h)
