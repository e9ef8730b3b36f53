-- The segments of the lanes, as runs of items and as words of answers.
use Rattle.std.proofs.Common.{◌≡◌, ◌≢◌, ◌⊎◌, ℕ, ◌+◌, ◌-◌, ◌*◌, ◌/◌, ◌%◌, ◌<◌, ◌≤◌, ◌∙◌, ap, sym, arith, refl, inl, inr}
use Rattle.std.proofs.lemmas.Bool.{cases_lt}
use Rattle.fastlanes.specs.Layout.{place, segment, segment_row, segment_lane, IsWordWidth, bits_8, bits_16, bits_32, bits_64}
use Rattle.fastlanes.specs.Delta.{Transposed, delta_item, item_place, summed_item}
use Rattle.fastlanes.specs.Rows.{WritesRows}
use Rattle.fastlanes.proofs.Bijection.{segment_placed, segment_read}
use Rattle.fastlanes.proofs.Moves.{segment_first}

-- a segment begins at a multiple of T, within the block
pub segment_whole : (T lanes l : ℕ) → IsWordWidth T lanes → l < lanes → (segment l % T ≡ 0) × (segment l < 1024)
segment_whole _ _ l bits_8 h =
    let there = segment_read 8 128 0 l bits_8 (omega arith) h in
    let e : segment l ≡ segment l + 0 = omega arith in
    (ap (λ (n : ℕ). n % 8) e ∙ there.0, let room : segment l + 0 < 1024 = there.2 in omega arith)
segment_whole _ _ l bits_16 h =
    let there = segment_read 16 64 0 l bits_16 (omega arith) h in
    let e : segment l ≡ segment l + 0 = omega arith in
    (ap (λ (n : ℕ). n % 16) e ∙ there.0, let room : segment l + 0 < 1024 = there.2 in omega arith)
segment_whole _ _ l bits_32 h =
    let there = segment_read 32 32 0 l bits_32 (omega arith) h in
    let e : segment l ≡ segment l + 0 = omega arith in
    (ap (λ (n : ℕ). n % 32) e ∙ there.0, let room : segment l + 0 < 1024 = there.2 in omega arith)
segment_whole _ _ l bits_64 h =
    let there = segment_read 64 16 0 l bits_64 (omega arith) h in
    let e : segment l ≡ segment l + 0 = omega arith in
    (ap (λ (n : ℕ). n % 64) e ∙ there.0, let room : segment l + 0 < 1024 = there.2 in omega arith)

-- lane j of a group has its items in the sixty-four from 64 * j on
pub segment_of_lane : (g j : ℕ) → j < 16 → segment (16 * g + j) ≡ 64 * j + segment (16 * g)
unfolding segment
segment_of_lane g j h =
    let one : (16 * g + j) % 16 ≡ j = omega arith in
    let two : (16 * g + j) / 16 ≡ g = omega arith in
    let three : 16 * g % 16 ≡ 0 = omega arith in
    let four : 16 * g / 16 ≡ g = omega arith in
    rw (one, two, three, four) (omega arith)

-- the first lane of a group has its items in the first sixty-four
pub first_inside : (T lanes g : ℕ) → IsWordWidth T lanes → 16 * g + 16 ≤ lanes → segment (16 * g) + T ≤ 64
first_inside _ _ g bits_8 h = let low = segment_first g (omega arith) in omega arith
first_inside _ _ g bits_16 h = let low = segment_first g (omega arith) in let whole = (segment_whole 16 64 (16 * g) bits_16 (omega arith)).0 in omega arith
first_inside _ _ g bits_32 h = let low = segment_first g (omega arith) in let whole = (segment_whole 32 32 (16 * g) bits_32 (omega arith)).0 in omega arith
first_inside _ _ g bits_64 h = let low = segment_first g (omega arith) in let whole = (segment_whole 64 16 (16 * g) bits_64 (omega arith)).0 in omega arith

pub whole_fours : (T lanes : ℕ) → IsWordWidth T lanes → (4 * (T / 4) ≡ T) × (16 * (lanes / 16) ≡ lanes)
whole_fours _ _ bits_8 = (refl, refl)
whole_fours _ _ bits_16 = (refl, refl)
whole_fours _ _ bits_32 = (refl, refl)
whole_fours _ _ bits_64 = (refl, refl)

-- ---- runs of four items, 64 apart
pub runs_more : (value : ℕ → ℕ → ℕ) (old new : ℕ → ℕ) (at j m : ℕ) → at ≤ 60 → m ≡ j + 1
    → ((n k : ℕ) → n < j → k < 4 → old (64 * n + at + k) ≡ value n k)
    → ((k : ℕ) → k < 4 → new (64 * j + at + k) ≡ value j k) → ((i : ℕ) → (i < 64 * j + at) ⊎ (64 * j + at + 4 ≤ i) → new i ≡ old i)
    → (n k : ℕ) → n < m → k < 4 → new (64 * n + at + k) ≡ value n k
runs_more value old new at j m low next done run kept n k p q =
    elim (cases_lt n j) [
      | inl below ↦ kept (64 * n + at + k) (inl (omega arith)) ∙ done n k below q
      | inr above ↦
          let same : j ≡ n = omega arith in
          rw same at (run k q)
    ]

pub run_aside : (at k i : ℕ) → k < 4 → (i < at) ⊎ (at + 4 ≤ i) → i ≢ at + k
run_aside at k i h (inl below) = omega arith
run_aside at k i h (inr above) = omega arith

pub runs_kept : (at j i : ℕ) → at ≤ 60 → (i % 64 < at) ⊎ (at + 4 ≤ i % 64) → (i < 64 * j + at) ⊎ (64 * j + at + 4 ≤ i)
runs_kept at j i low (inl before) = elim (cases_lt i (64 * j + at)) [ inl below ↦ inl below | inr from ↦ inr (omega arith) ]
runs_kept at j i low (inr after) = elim (cases_lt i (64 * j + at)) [ inl below ↦ inl below | inr from ↦ inr (omega arith) ]

-- four rows of a group, written to the places of their lanes
pub four_written : (T lanes : ℕ) (value : ℕ → ℕ → ℕ) (g r at : ℕ) (row old new : ℕ → ℕ) → IsWordWidth T lanes → r + 4 ≤ T → 16 * g + 16 ≤ lanes → at ≡ segment (16 * g) + r
    → ((i : ℕ) → i < 64 → row i ≡ value (r + i / 16) (16 * g + i % 16))
    → ((j k : ℕ) → j < 16 → k < 4 → new (64 * j + at + k) ≡ row (16 * k + j))
    → ((i : ℕ) → (i % 64 < at) ⊎ (at + 4 ≤ i % 64) → new i ≡ old i)
    → WritesRows T lanes item_place value g r (r + 4) old new
four_written T lanes value g r at row old new shape rows room at_is summed runs kept = record {
  done = λ s j p q h.
      let k = s - r in
      let there = segment_of_lane g j h in
      let where_is : segment (16 * g + j) + s ≡ 64 * j + at + k = omega arith in
      let row_is : r + (16 * k + j) / 16 ≡ s = omega arith in
      let lane_is : 16 * g + (16 * k + j) % 16 ≡ 16 * g + j = omega arith in
      ap new where_is ∙ (runs j k h (omega arith) ∙ (summed (16 * k + j) (omega arith)
      ∙ (ap (λ (n : ℕ). value n (16 * g + (16 * k + j) % 16)) row_is ∙ ap (value s) lane_is)));
  others = λ s m p q away. kept (segment m + s) (apart s m p q away);
}
  where
    none : (s m k j : ℕ) → j < 16 → k < 4 → s ≡ r + k → m ≡ 16 * g + j → (s < r) ⊎ (r + 4 ≤ s) ⊎ (m < 16 * g) ⊎ (16 * g + 16 ≤ m) → ⊥
    none s m k j p q same lane (inl h) = omega arith
    none s m k j p q same lane (inr (inl h)) = omega arith
    none s m k j p q same lane (inr (inr (inl h))) = omega arith
    none s m k j p q same lane (inr (inr (inr h))) = omega arith

    apart : (s m : ℕ) → s < T → m < lanes → (s < r) ⊎ (r + 4 ≤ s) ⊎ (m < 16 * g) ⊎ (16 * g + 16 ≤ m) → ((segment m + s) % 64 < at) ⊎ (at + 4 ≤ (segment m + s) % 64)
    apart s m p q away =
        let i = segment m + s in
        elim (cases_lt (i % 64) at) [
          | inl below ↦ inl below
          | inr from ↦ elim (cases_lt (i % 64) (at + 4)) [
            | inr above ↦ inr above
            | inl within ↦
                let here = segment_read T lanes s m shape p q in
                let inside : i < 1024 = here.2 in
                let j = i / 64 in
                let k = i % 64 - at in
                let there = segment_of_lane g j (omega arith) in
                let same : i ≡ segment (16 * g + j) + (r + k) = omega arith in
                let run = segment_read T lanes (r + k) (16 * g + j) shape (omega arith) (omega arith) in
                let row_is : s ≡ r + k = sym here.0 ∙ (ap (segment_row T) same ∙ run.0) in
                let lane_is : m ≡ 16 * g + j = sym here.1 ∙ (ap (segment_lane T) same ∙ run.1) in
                absurd (none s m k j (omega arith) (omega arith) row_is lane_is away)
          ]
        ]

-- the items of a block that is summed and then put back into their order
pub items_of_sums : (T lanes : ℕ) (base delta item stored : ℕ → ℕ) → IsWordWidth T lanes → ((r l : ℕ) → r < T → l < lanes → stored (place r l) ≡ summed_item T base delta r l)
    → Transposed T lanes item stored → (i : ℕ) → i < 1024 → item i ≡ delta_item T base delta i
unfolding delta_item
items_of_sums T lanes base delta item stored shape each transposed i h =
    let there = segment_placed T lanes i shape h in
    let row = segment_row T i in
    let lane = segment_lane T i in
    sym (ap item there.0) ∙ (sym (transposed.moved row lane there.1 there.2) ∙ each row lane there.1 there.2)

-- ---- the words of the answers
-- the segment of a lane is a whole word
pub segment_word : (T lanes l : ℕ) → IsWordWidth T lanes → l < lanes → (segment l / T < lanes) × (segment l / T * T ≡ segment l) × ((segment l / T + 1) * (T / 8) ≤ 128)
segment_word _ _ l bits_8 h = let there = segment_whole 8 128 l bits_8 h in let whole = there.0 in let room = there.1 in (omega arith, omega arith, omega arith)
segment_word _ _ l bits_16 h = let there = segment_whole 16 64 l bits_16 h in let whole = there.0 in let room = there.1 in (omega arith, omega arith, omega arith)
segment_word _ _ l bits_32 h = let there = segment_whole 32 32 l bits_32 h in let whole = there.0 in let room = there.1 in (omega arith, omega arith, omega arith)
segment_word _ _ l bits_64 h = let there = segment_whole 64 16 l bits_64 h in let whole = there.0 in let room = there.1 in (omega arith, omega arith, omega arith)

-- two lanes have two words
pub words_apart : (T lanes l m : ℕ) → IsWordWidth T lanes → l < lanes → m < lanes → l ≢ m → segment l / T ≢ segment m / T
words_apart T lanes l m shape p q other same =
    let one = (segment_word T lanes l shape p).1 in
    let two = (segment_word T lanes m shape q).1 in
    let alike : segment l + 0 ≡ segment m + 0 = let e = sym one ∙ (ap (λ (n : ℕ). n * T) same ∙ two) in ap (λ (n : ℕ). n + 0) e in
    let some : 0 < T = above T lanes shape in
    other (sym (segment_read T lanes 0 l shape some p).1 ∙ (ap (segment_lane T) alike ∙ (segment_read T lanes 0 m shape some q).1))
  where
    above : (T lanes : ℕ) → IsWordWidth T lanes → 0 < T
    above _ _ bits_8 = omega arith
    above _ _ bits_16 = omega arith
    above _ _ bits_32 = omega arith
    above _ _ bits_64 = omega arith
