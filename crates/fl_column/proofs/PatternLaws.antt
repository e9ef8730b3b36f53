-- Values of patterns that are pushed one by one.
use Rattle.std.proofs.Common.{◌≡◌, ℕ, pos, ◌+◌, ◌^◌, ◌<◌, arith, refl, zero, suc, List, [], ◌∷◌, ◌++◌, length, map, take, get_or, ap, sym, ◌∙◌}
use Rattle.std.proofs.lemmas.List.{append_assoc, map-append, map_more}
use Rattle.fl_types.specs.declared.dtype.PType.{PType}
use Rattle.fl_types.specs.Integers.{pattern_of, read_as}

-- numbers below 2 ^ bits that are read as themselves
pub values_read : (bits : ℕ) (t : PType) (words : List ℕ) → ((p : ℕ) → p < 2 ^ bits → pos p ≡ read_as t p) → ((k : ℕ) → get_or words k 0 < 2 ^ bits) → map (λ n. pos n) words ≡ map (λ w. read_as t w) words
values_read bits t [] same small = refl
values_read bits t (w ∷ words) same small = λ i. same w (small 0) i ∷ values_read bits t words same (λ k. small (suc k)) i

-- numbers below 2 ^ bits that are their own patterns
pub patterns_kept : (bits : ℕ) (t : PType) (words : List ℕ) → ((p : ℕ) → p < 2 ^ bits → p ≡ pattern_of t (pos p)) → ((k : ℕ) → get_or words k 0 < 2 ^ bits) → map (λ n. n) words ≡ map (pattern_of t) (map (λ n. pos n) words)
patterns_kept bits t [] same small = refl
patterns_kept bits t (w ∷ words) same small = λ i. same w (small 0) i ∷ patterns_kept bits t words same (λ k. small (suc k)) i

-- one more value of words that are read, behind the values that stood before
pub values_pushed : {A B W : Type 0} (value : A → B) (read : W → B) (words : List W) (start : List B) (new old : List A) (x : A) (w : W) (n : ℕ) → n < length words → w ≡ get_or words n w → new ≡ old ++ x ∷ [] → map value old ≡ start ++ map read (take n words) → value x ≡ read w
    → map value new ≡ start ++ map read (take (n + 1) words)
values_pushed value read words start new old x w n h is pushed before here =
    rw (pushed, map-append, before, here, append_assoc) (ap (λ ys. start ++ ys) (ap (λ v. map read (take n words) ++ read v ∷ []) is ∙ sym (map_more read words n w h)))
