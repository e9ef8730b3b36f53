-- Slices of which a part is written, and the integers in them.
use Rattle.std.proofs.Common.{◌≡◌, ℕ, ℤ, pos, ◌+◌, ◌-◌, ◌<◌, ◌≤◌, List, ◌++◌, length, map, take, drop, get_or, ap, sym, ◌∙◌, arith, length-take}
use Rattle.std.proofs.lemmas.List.{drop-map, get_or-append_right, get_or-drop, get_or-map, get_or-take, get_or_append_left, length-map, map-append, take-map}
use Rattle.std.proofs.lemmas.Simd.{map-map}
use Rattle.fastlanes.specs.Layout.{pattern_at}

-- integers that are read from patterns all at once are read so one by one
pub integer_of_pattern : {X W : Type 0} (value : X → ℤ) (read : ℕ → ℤ) (pattern : W → ℕ) (xs : List X) (words : List W) → map value xs ≡ map (λ w. read (pattern w)) words
    → (i : ℕ) → i < length words → get_or (map value xs) i (pos 0) ≡ read (pattern_at pattern words i)
unfolding pattern_at
integer_of_pattern value read pattern xs words e i h =
    ap (λ ys. get_or ys i (pos 0)) (e ∙ sym (map-map read pattern words)) ∙ get_or-map read (map pattern words) i 0 (pos 0) (rw length-map h)

-- patterns that are those of integers all at once are so one by one
pub pattern_of_integer : {X W : Type 0} (value : X → ℤ) (write : ℤ → ℕ) (pattern : W → ℕ) (xs : List X) (words : List W) → map pattern words ≡ map write (map value xs)
    → (i : ℕ) → i < length xs → pattern_at pattern words i ≡ write (get_or (map value xs) i (pos 0))
unfolding pattern_at
pattern_of_integer value write pattern xs words e i h = ap (λ ys. get_or ys i 0) e ∙ get_or-map write (map value xs) i (pos 0) 0 (rw length-map h)

-- an integer of a part
pub integer_of_part : {X : Type 0} (value : X → ℤ) (xs : List X) (from n i : ℕ) → i < n → get_or (map value (take n (drop from xs))) i (pos 0) ≡ get_or (map value xs) (from + i) (pos 0)
integer_of_part value xs from n i h =
    ap (λ ys. get_or ys i (pos 0)) (sym (take-map value n (drop from xs)) ∙ ap (take n) (sym (drop-map value from xs))) ∙ (get_or-take n (drop from (map value xs)) i (pos 0) h ∙ get_or-drop from (map value xs) i (pos 0))

-- ---- a part that is written
-- an integer before the part
pub integer_before : {X : Type 0} (value : X → ℤ) (xs new rest : List X) (from i : ℕ) → from ≤ length xs → i < from → get_or (map value (take from xs ++ (new ++ rest))) i (pos 0) ≡ get_or (map value xs) i (pos 0)
integer_before value xs new rest from i room h =
    let front : length (map value (take from xs)) ≡ from = length-map (take from xs) value ∙ (let taken = length-take from xs in omega arith) in
    ap (λ ys. get_or ys i (pos 0)) (map-append value (take from xs) (new ++ rest))
    ∙ (get_or_append_left (map value (take from xs)) (map value (new ++ rest)) (pos 0) i (omega arith)
    ∙ (ap (λ ys. get_or ys i (pos 0)) (sym (take-map value from xs)) ∙ get_or-take from (map value xs) i (pos 0) h))

-- an integer in the part
pub integer_inside : {X : Type 0} (value : X → ℤ) (xs new rest : List X) (from i : ℕ) → from ≤ length xs → from ≤ i → i < from + length new → get_or (map value (take from xs ++ (new ++ rest))) i (pos 0) ≡ get_or (map value new) (i - from) (pos 0)
integer_inside value xs new rest from i room low high =
    let front : length (map value (take from xs)) ≡ from = length-map (take from xs) value ∙ (let taken = length-take from xs in omega arith) in
    let inside : i - from < length (map value new) = let same = length-map new value in omega arith in
    ap (λ ys. get_or ys i (pos 0)) (map-append value (take from xs) (new ++ rest) ∙ ap (λ ys. map value (take from xs) ++ ys) (map-append value new rest))
    ∙ (get_or-append_right (map value (take from xs)) (map value new ++ map value rest) from i (pos 0) front low
    ∙ get_or_append_left (map value new) (map value rest) (pos 0) (i - from) inside)
