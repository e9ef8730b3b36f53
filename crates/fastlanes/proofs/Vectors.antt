-- One lane of vectors of sixteen words.
use Rattle.std.proofs.Common.{◌≡◌, ◌⊎◌, ℕ, ◌+◌, ◌<◌, ◌≤◌, List, get_or, length, ◌∙◌, ap, sym, inl, inr}
use Rattle.std.specs.Simd.Lanes.{put_chunk}
use Rattle.std.proofs.lemmas.Simd.{get_or-put_chunk_below, get_or-put_chunk_above}
use Rattle.std.proofs.lemmas.List.{map-id}
use Rattle.fastlanes.specs.Layout.{pattern_at}

pub pattern_at_number : (xs : List ℕ) (i : ℕ) → pattern_at (λ x. x) xs i ≡ get_or xs i 0
unfolding pattern_at
pattern_at_number xs i = ap (λ (ys : List ℕ). get_or ys i 0) (map-id xs)

pub stored_elsewhere : (xs zs : List ℕ) (to i : ℕ) → length zs ≡ 16 → (i < to) ⊎ (to + 16 ≤ i) → pattern_at (λ x. x) (put_chunk to xs zs) i ≡ pattern_at (λ x. x) xs i
stored_elsewhere xs zs to i long (inl below) = pattern_at_number (put_chunk to xs zs) i ∙ (get_or-put_chunk_below to xs zs i 0 below ∙ sym (pattern_at_number xs i))
stored_elsewhere xs zs to i long (inr above) = pattern_at_number (put_chunk to xs zs) i ∙ (get_or-put_chunk_above to xs zs i 0 (rw long above) ∙ sym (pattern_at_number xs i))
