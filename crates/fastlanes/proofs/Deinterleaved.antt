-- The even and the odd ones of 32 bytes, and where they go.
use Rattle.std.proofs.Common.{◌≡◌, ◌⊎◌, ℕ, ◌+◌, ◌-◌, ◌*◌, ◌/◌, ◌%◌, ◌<◌, ◌≤◌, ◌∙◌, ap, sym, arith, refl, List, [], ◌∷◌, ◌++◌, length, inl, inr, subst, Bool, true, ◌&&◌, ◌≢◌, cond}
use Rattle.std.specs.Prelude.{slice_index, nat_eq, nat_lt}
use Rattle.std.specs.Simd.Lanes.{chunk, put_chunk, pick_l}
use Rattle.std.proofs.lemmas.Simd.{length-chunk, length-put_chunk, get_or-chunk, get_or-put_chunk_below, get_or-put_chunk_at, get_or-put_chunk_above}
use Rattle.std.proofs.lemmas.List.{get_or-map, get_or_append_left, get_or-append_right}
use Rattle.std.proofs.lemmas.Bool.{eqb-true, ltb-true, and_parts, cases_lt}
use Rattle.fastlanes.specs.Deinterleaved.{deinterleaved}
use Rattle.fastlanes.specs.Layout.{row_of, lane_of, IsWordWidth, bits_8, bits_16, bits_32, bits_64}
use Rattle.fastlanes.proofs.Bijection.{all_below, below_true}

-- the sizes of the parts in which the 128 bytes are deinterleaved
pub data IsPartSize : ℕ → Type 0 where
  whole : IsPartSize 128
  half : IsPartSize 64
  quarter : IsPartSize 32

pub part_size : (size : ℕ) → size ≡ 128 ⊎ size ≡ 64 ⊎ size ≡ 32 → IsPartSize size
part_size size (inl e) = subst IsPartSize (sym e) whole
part_size size (inr (inl e)) = subst IsPartSize (sym e) half
part_size size (inr (inr e)) = subst IsPartSize (sym e) quarter

-- the places of the even lanes of two vectors of sixteen, and of the odd ones
abbrev even_places : List ℕ
even_places = 0 ∷ 2 ∷ 4 ∷ 6 ∷ 8 ∷ 10 ∷ 12 ∷ 14 ∷ 16 ∷ 18 ∷ 20 ∷ 22 ∷ 24 ∷ 26 ∷ 28 ∷ 30 ∷ []

abbrev odd_places : List ℕ
odd_places = 1 ∷ 3 ∷ 5 ∷ 7 ∷ 9 ∷ 11 ∷ 13 ∷ 15 ∷ 17 ∷ 19 ∷ 21 ∷ 23 ∷ 25 ∷ 27 ∷ 29 ∷ 31 ∷ []

even_place : (j : ℕ) → j < 16 → slice_index even_places j ≡ 2 * j
even_place j h = eqb-true _ _ (below_true 16 (λ i. nat_eq (slice_index even_places i) (2 * i)) j refl h)

odd_place : (j : ℕ) → j < 16 → slice_index odd_places j ≡ 2 * j + 1
odd_place j h = eqb-true _ _ (below_true 16 (λ i. nat_eq (slice_index odd_places i) (2 * i + 1)) j refl h)

-- two vectors of sixteen bytes, loaded side by side
abbrev loaded : List ℕ → ℕ → List ℕ
loaded xs from = chunk from 16 xs ++ chunk (from + 16) 16 xs

loaded_byte : (xs : List ℕ) (from i : ℕ) → i < 32 → from + 32 ≤ length xs → slice_index (loaded xs from) i ≡ slice_index xs (from + i)
loaded_byte xs from i h room =
    let long : length (chunk from 16 xs) ≡ 16 = length-chunk from 16 xs (omega arith) in
    elim (cases_lt i 16) [
      | inl low ↦ get_or_append_left (chunk from 16 xs) (chunk (from + 16) 16 xs) 0 i (rw long low) ∙ get_or-chunk from 16 xs i 0 low
      | inr high ↦
          let there : from + 16 + (i - 16) ≡ from + i = omega arith in
          get_or-append_right (chunk from 16 xs) (chunk (from + 16) 16 xs) 16 i 0 long high
          ∙ (get_or-chunk (from + 16) 16 xs (i - 16) 0 (omega arith) ∙ ap (slice_index xs) there)
    ]

pub even_byte : (xs : List ℕ) (from j : ℕ) → j < 16 → from + 32 ≤ length xs → slice_index (pick_l 0 (loaded xs from) even_places) j ≡ slice_index xs (from + 2 * j)
even_byte xs from j h room =
    get_or-map (slice_index (loaded xs from)) even_places j 0 0 h
    ∙ (ap (slice_index (loaded xs from)) (even_place j h) ∙ loaded_byte xs from (2 * j) (omega arith) room)

pub odd_byte : (xs : List ℕ) (from j : ℕ) → j < 16 → from + 32 ≤ length xs → slice_index (pick_l 0 (loaded xs from) odd_places) j ≡ slice_index xs (from + 2 * j + 1)
odd_byte xs from j h room =
    let there : from + (2 * j + 1) ≡ from + 2 * j + 1 = omega arith in
    get_or-map (slice_index (loaded xs from)) odd_places j 0 0 h
    ∙ (ap (slice_index (loaded xs from)) (odd_place j h) ∙ (loaded_byte xs from (2 * j + 1) (omega arith) room ∙ ap (slice_index xs) there))

-- ---- sixteen bytes stored at one place, and sixteen at a later one
write_elsewhere : (xs ys : List ℕ) (at i : ℕ) → length ys ≡ 16 → (i < at) ⊎ (at + 16 ≤ i) → slice_index (put_chunk at xs ys) i ≡ slice_index xs i
write_elsewhere xs ys at i long (inl below) = get_or-put_chunk_below at xs ys i 0 below
write_elsewhere xs ys at i long (inr above) = get_or-put_chunk_above at xs ys i 0 (rw long above)

pub stored_first : (xs ys zs : List ℕ) (first second j : ℕ) → length ys ≡ 16 → first + 16 ≤ second → second + 16 ≤ length xs → j < 16
    → slice_index (put_chunk second (put_chunk first xs ys) zs) (first + j) ≡ slice_index ys j
stored_first xs ys zs first second j long apart room h =
    get_or-put_chunk_below second (put_chunk first xs ys) zs (first + j) 0 (omega arith) ∙ get_or-put_chunk_at first xs ys j 0 (rw long h) (rw long (omega arith))

pub stored_second : (xs ys zs : List ℕ) (first second j : ℕ) → length zs ≡ 16 → second + 16 ≤ length xs → j < 16
    → slice_index (put_chunk second (put_chunk first xs ys) zs) (second + j) ≡ slice_index zs j
stored_second xs ys zs first second j long room h =
    get_or-put_chunk_at second (put_chunk first xs ys) zs j 0 (rw long h) (rw (long, length-put_chunk first xs ys) room)

pub stored_others : (xs ys zs : List ℕ) (first second i : ℕ) → length ys ≡ 16 → length zs ≡ 16 → (i < first) ⊎ (first + 16 ≤ i) → (i < second) ⊎ (second + 16 ≤ i)
    → slice_index (put_chunk second (put_chunk first xs ys) zs) i ≡ slice_index xs i
stored_others xs ys zs first second i a b p q = write_elsewhere (put_chunk first xs ys) zs second i b q ∙ write_elsewhere xs ys first i a p

-- ---- where the bytes from 32 * k on go
abbrev even_part : ℕ → ℕ → ℕ
even_part size k = 32 * k / size * size + 32 * k % size / 2

abbrev odd_part : ℕ → ℕ → ℕ
odd_part size k = even_part size k + size / 2

deinterleaved_even : (size k j : ℕ) → IsPartSize size → k < 4 → j < 16 → deinterleaved size (32 * k + 2 * j) ≡ even_part size k + j
unfolding deinterleaved
deinterleaved_even _ k j whole h p = omega arith
deinterleaved_even _ k j half h p = omega arith
deinterleaved_even _ k j quarter h p = omega arith

deinterleaved_odd : (size k j : ℕ) → IsPartSize size → k < 4 → j < 16 → deinterleaved size (32 * k + 2 * j + 1) ≡ odd_part size k + j
unfolding deinterleaved
deinterleaved_odd _ k j whole h p = omega arith
deinterleaved_odd _ k j half h p = omega arith
deinterleaved_odd _ k j quarter h p = omega arith

-- a byte from before them goes neither to where the even ones go nor to where the odd ones go
away_from : (i at : ℕ) → (at ≤ i → at + 16 ≤ i) → (i < at) ⊎ (at + 16 ≤ i)
away_from i at h = elim (cases_lt i at) [ inl below ↦ inl below | inr above ↦ inr (h above) ]

away_from_evens : (size k n : ℕ) → IsPartSize size → k < 4 → n < 32 * k → (deinterleaved size n < even_part size k) ⊎ (even_part size k + 16 ≤ deinterleaved size n)
unfolding deinterleaved
away_from_evens size k n whole h p = away_from (deinterleaved size n) (even_part size k) (omega arith)
away_from_evens size k n half h p = away_from (deinterleaved size n) (even_part size k) (omega arith)
away_from_evens size k n quarter h p = away_from (deinterleaved size n) (even_part size k) (omega arith)

away_from_odds : (size k n : ℕ) → IsPartSize size → k < 4 → n < 32 * k → (deinterleaved size n < odd_part size k) ⊎ (odd_part size k + 16 ≤ deinterleaved size n)
unfolding deinterleaved
away_from_odds size k n whole h p = away_from (deinterleaved size n) (odd_part size k) (omega arith)
away_from_odds size k n half h p = away_from (deinterleaved size n) (odd_part size k) (omega arith)
away_from_odds size k n quarter h p = away_from (deinterleaved size n) (odd_part size k) (omega arith)

-- the step of the loop that separates 32 bytes
pub deinterleaved_more : (source before after : List ℕ) (size k n : ℕ) → IsPartSize size → k < 4 → n < 32 * (k + 1)
    → ((i : ℕ) → i < 32 * k → slice_index before (deinterleaved size i) ≡ slice_index source i)
    → ((j : ℕ) → j < 16 → slice_index after (even_part size k + j) ≡ slice_index source (32 * k + 2 * j))
    → ((j : ℕ) → j < 16 → slice_index after (odd_part size k + j) ≡ slice_index source (32 * k + 2 * j + 1))
    → ((i : ℕ) → (i < even_part size k) ⊎ (even_part size k + 16 ≤ i) → (i < odd_part size k) ⊎ (odd_part size k + 16 ≤ i) → slice_index after i ≡ slice_index before i)
    → slice_index after (deinterleaved size n) ≡ slice_index source n
deinterleaved_more source before after size k n part h below done evens odds others =
    elim (cases_lt n (32 * k)) [
      | inl old ↦ others (deinterleaved size n) (away_from_evens size k n part h old) (away_from_odds size k n part h old) ∙ done n old
      | inr new ↦
          let j : n % 32 / 2 < 16 = omega arith in
          elim (cases_lt (n % 2) 1) [
            | inl even ↦
                let same : 32 * k + 2 * (n % 32 / 2) ≡ n = omega arith in
                rw same at (ap (slice_index after) (deinterleaved_even size k (n % 32 / 2) part h j) ∙ evens (n % 32 / 2) j)
            | inr odd ↦
                let same : 32 * k + 2 * (n % 32 / 2) + 1 ≡ n = omega arith in
                rw same at (ap (slice_index after) (deinterleaved_odd size k (n % 32 / 2) part h j) ∙ odds (n % 32 / 2) j)
          ]
    ]

-- ---- the byte of eight rows of a lane
abbrev gathered_from : ℕ → ℕ → ℕ → ℕ
gathered_from T lanes m = lane_of lanes m * (T / 8) + row_of lanes m / 8

-- where byte n goes in all, where a word has T bits
abbrev gathered_to : ℕ → ℕ → ℕ
gathered_to T n = cond (nat_eq T 8) n (cond (nat_eq T 16) (deinterleaved 128 n) (cond (nat_eq T 32) (deinterleaved 64 (deinterleaved 128 n)) (deinterleaved 32 (deinterleaved 64 (deinterleaved 128 n)))))

abbrev gathered_there : ℕ → ℕ → ℕ → Bool
gathered_there T lanes m = nat_eq (gathered_to T (gathered_from T lanes m)) m && nat_lt (gathered_from T lanes m) 128

gathered_checked : (T lanes : ℕ) → IsWordWidth T lanes → all_below 128 (gathered_there T lanes) ≡ true
unfolding deinterleaved row_of
gathered_checked _ _ bits_8 = refl
gathered_checked _ _ bits_16 = refl
gathered_checked _ _ bits_32 = refl
gathered_checked _ _ bits_64 = refl

pub gathered : (T lanes : ℕ) (source bytes : List ℕ) (m : ℕ) → IsWordWidth T lanes → ((n : ℕ) → n < 128 → slice_index bytes (gathered_to T n) ≡ slice_index source n) → m < 128
    → slice_index bytes m ≡ slice_index source (lane_of lanes m * (T / 8) + row_of lanes m / 8)
gathered T lanes source bytes m shape moved h =
    let parts = and_parts (nat_eq (gathered_to T (gathered_from T lanes m)) m) (nat_lt (gathered_from T lanes m) 128) (below_true 128 (gathered_there T lanes) m (gathered_checked T lanes shape) h) in
    let there : gathered_to T (gathered_from T lanes m) ≡ m = eqb-true _ _ parts.0 in
    ap (slice_index bytes) (sym there) ∙ moved (gathered_from T lanes m) (ltb-true _ _ parts.1)

pub deinterleaved_below : (size n : ℕ) → IsPartSize size → n < 128 → deinterleaved size n < 128
unfolding deinterleaved
deinterleaved_below _ n whole h = omega arith
deinterleaved_below _ n half h = omega arith
deinterleaved_below _ n quarter h = omega arith

pub last_width : (T lanes : ℕ) → IsWordWidth T lanes → T ≢ 8 → T ≢ 16 → T ≢ 32 → T ≡ 64
last_width _ _ bits_8 p q r = absurd (p refl)
last_width _ _ bits_16 p q r = absurd (q refl)
last_width _ _ bits_32 p q r = absurd (r refl)
last_width _ _ bits_64 p q r = refl
