-- The words of two vectors in turn.
use Rattle.std.proofs.Common.{◌≡◌, ◌⊎◌, ℕ, ◌+◌, ◌-◌, ◌*◌, ◌/◌, ◌%◌, ◌<◌, ◌≤◌, List, [], ◌∷◌, ◌++◌, get_or, length, ◌∙◌, ap, sym, inl, inr, arith, refl, Bool}
use Rattle.std.specs.Prelude.{nat_eq, ◌&&◌}
use Rattle.std.specs.Simd.Lanes.{put_chunk, chunk, pick_l}
use Rattle.std.proofs.lemmas.Simd.{length-put_chunk, length-chunk, get_or-chunk}
use Rattle.std.proofs.lemmas.List.{get_or-map, get_or_append_left, get_or-append-add}
use Rattle.std.proofs.lemmas.Bool.{and_parts, eqb-true, cases_lt, cases_eq}
use Rattle.fastlanes.specs.Layout.{pattern_at}
use Rattle.fastlanes.proofs.Bijection.{below_true}
use Rattle.fastlanes.proofs.Sixteen.{stored}
use Rattle.fastlanes.proofs.Vectors.{pattern_at_number, stored_elsewhere}

-- the lanes of two vectors, those of the second from 16 on, that an interleaving takes
abbrev pub low_turns : List ℕ
low_turns = 0 ∷ 16 ∷ 1 ∷ 17 ∷ 2 ∷ 18 ∷ 3 ∷ 19 ∷ 4 ∷ 20 ∷ 5 ∷ 21 ∷ 6 ∷ 22 ∷ 7 ∷ 23 ∷ []

abbrev pub high_turns : List ℕ
high_turns = 8 ∷ 24 ∷ 9 ∷ 25 ∷ 10 ∷ 26 ∷ 11 ∷ 27 ∷ 12 ∷ 28 ∷ 13 ∷ 29 ∷ 14 ∷ 30 ∷ 15 ∷ 31 ∷ []

abbrev low_at : ℕ → Bool
low_at j = nat_eq (get_or low_turns (2 * j) 0) j && nat_eq (get_or low_turns (2 * j + 1) 0) (16 + j)

abbrev high_at : ℕ → Bool
high_at j = nat_eq (get_or high_turns (2 * j) 0) (8 + j) && nat_eq (get_or high_turns (2 * j + 1) 0) (24 + j)

low_read : (j : ℕ) → j < 8 → (get_or low_turns (2 * j) 0 ≡ j) × (get_or low_turns (2 * j + 1) 0 ≡ 16 + j)
low_read j h = let both = and_parts _ _ (below_true 8 low_at j refl h) in (eqb-true _ _ both.0, eqb-true _ _ both.1)

high_read : (j : ℕ) → j < 8 → (get_or high_turns (2 * j) 0 ≡ 8 + j) × (get_or high_turns (2 * j + 1) 0 ≡ 24 + j)
high_read j h = let both = and_parts _ _ (below_true 8 high_at j refl h) in (eqb-true _ _ both.0, eqb-true _ _ both.1)

-- the words from first on and those from second on
abbrev pub joined : List ℕ → ℕ → ℕ → List ℕ
joined words first second = chunk first 16 words ++ chunk second 16 words

first_read : (words : List ℕ) (first second j : ℕ) → first + 16 ≤ length words → j < 16 → get_or (joined words first second) j 0 ≡ pattern_at (λ x. x) words (first + j)
first_read words first second j room h =
    get_or_append_left (chunk first 16 words) (chunk second 16 words) 0 j (rw (length-chunk first 16 words room) h)
    ∙ (get_or-chunk first 16 words j 0 h ∙ sym (pattern_at_number words (first + j)))

second_read : (words : List ℕ) (first second j : ℕ) → first + 16 ≤ length words → j < 16 → get_or (joined words first second) (16 + j) 0 ≡ pattern_at (λ x. x) words (second + j)
second_read words first second j room h =
    ap (λ n. get_or (joined words first second) (n + j) 0) (sym (length-chunk first 16 words room))
    ∙ (get_or-append-add (chunk first 16 words) (chunk second 16 words) j 0
    ∙ (get_or-chunk second 16 words j 0 h ∙ sym (pattern_at_number words (second + j))))

picked : (ys ks : List ℕ) (i k : ℕ) → i < length ks → get_or ks i 0 ≡ k → get_or (pick_l 0 ys ks) i 0 ≡ get_or ys k 0
picked ys ks i k h e = get_or-map (λ n. get_or ys n 0) ks i 0 0 h ∙ ap (λ n. get_or ys n 0) e

-- two vectors written one after the other
abbrev pub written : List ℕ → ℕ → List ℕ → List ℕ → List ℕ
written target at low high = put_chunk (at + 16) (put_chunk at target low) high

low_written : (target low high : List ℕ) (at k : ℕ) → length low ≡ 16 → length high ≡ 16 → at + 32 ≤ length target → k < 16 → pattern_at (λ x. x) (written target at low high) (at + k) ≡ get_or low k 0
low_written target low high at k a b room h =
    stored_elsewhere (put_chunk at target low) high (at + 16) (at + k) b (inl (omega arith)) ∙ stored target low at k h (omega arith) a

high_written : (target low high : List ℕ) (at k i : ℕ) → length low ≡ 16 → length high ≡ 16 → at + 32 ≤ length target → k < 16 → i ≡ 16 + k → pattern_at (λ x. x) (written target at low high) (at + i) ≡ get_or high k 0
high_written target low high at k i a b room h e =
    let same : at + i ≡ at + 16 + k = omega arith in
    ap (pattern_at (λ x. x) (written target at low high)) same
    ∙ stored (put_chunk at target low) high (at + 16) k h (rw (length-put_chunk at target low) (omega arith)) b

pub others_kept : (target words : List ℕ) (at first second i : ℕ) → (i < at) ⊎ (at + 32 ≤ i)
    → pattern_at (λ x. x) (written target at (pick_l 0 (joined words first second) low_turns) (pick_l 0 (joined words first second) high_turns)) i ≡ pattern_at (λ x. x) target i
others_kept target words at first second i (inl below) =
    let low = pick_l 0 (joined words first second) low_turns in
    stored_elsewhere (put_chunk at target low) _ (at + 16) i refl (inl (omega arith)) ∙ stored_elsewhere target low at i refl (inl below)
others_kept target words at first second i (inr above) =
    let low = pick_l 0 (joined words first second) low_turns in
    stored_elsewhere (put_chunk at target low) _ (at + 16) i refl (inr (omega arith)) ∙ stored_elsewhere target low at i refl (inr (omega arith))

pub even_written : (target words : List ℕ) (at first second j : ℕ) → first + 16 ≤ length words → at + 32 ≤ length target → j < 16
    → pattern_at (λ x. x) (written target at (pick_l 0 (joined words first second) low_turns) (pick_l 0 (joined words first second) high_turns)) (at + 2 * j) ≡ pattern_at (λ x. x) words (first + j)
even_written target words at first second j room space h =
    elim (cases_lt j 8) [
      | inl below ↦
          low_written target _ _ at (2 * j) refl refl space (omega arith)
          ∙ (picked (joined words first second) low_turns (2 * j) j (omega arith) (low_read j below).0 ∙ first_read words first second j room h)
      | inr above ↦
          let back : 8 + (j - 8) ≡ j = omega arith in
          high_written target _ _ at (2 * (j - 8)) (2 * j) refl refl space (omega arith) (omega arith)
          ∙ (picked (joined words first second) high_turns (2 * (j - 8)) j (omega arith) ((high_read (j - 8) (omega arith)).0 ∙ back) ∙ first_read words first second j room h)
    ]

pub odd_written : (target words : List ℕ) (at first second j : ℕ) → first + 16 ≤ length words → at + 32 ≤ length target → j < 16
    → pattern_at (λ x. x) (written target at (pick_l 0 (joined words first second) low_turns) (pick_l 0 (joined words first second) high_turns)) (at + (2 * j + 1)) ≡ pattern_at (λ x. x) words (second + j)
odd_written target words at first second j room space h =
    elim (cases_lt j 8) [
      | inl below ↦
          low_written target _ _ at (2 * j + 1) refl refl space (omega arith)
          ∙ (picked (joined words first second) low_turns (2 * j + 1) (16 + j) (omega arith) (low_read j below).1 ∙ second_read words first second j room h)
      | inr above ↦
          let back : 24 + (j - 8) ≡ 16 + j = omega arith in
          high_written target _ _ at (2 * (j - 8) + 1) (2 * j + 1) refl refl space (omega arith) (omega arith)
          ∙ (picked (joined words first second) high_turns (2 * (j - 8) + 1) (16 + j) (omega arith) ((high_read (j - 8) (omega arith)).1 ∙ back) ∙ second_read words first second j room h)
    ]

-- the step of a loop that writes the words of two halves in turn
pub in_turn_more : (word old new : ℕ → ℕ) (k m : ℕ) → m ≡ k + 1
    → ((i : ℕ) → i < 32 * k → old i ≡ word (i / 2 + 512 * (i % 2)))
    → ((j : ℕ) → j < 16 → new (32 * k + 2 * j) ≡ word (16 * k + j))
    → ((j : ℕ) → j < 16 → new (32 * k + (2 * j + 1)) ≡ word (16 * k + 512 + j))
    → ((i : ℕ) → (i < 32 * k) ⊎ (32 * k + 32 ≤ i) → new i ≡ old i)
    → (i : ℕ) → i < 32 * m → new i ≡ word (i / 2 + 512 * (i % 2))
in_turn_more word old new k m next done even odd others i h =
    elim (cases_lt i (32 * k)) [
      | inl below ↦ others i (inl below) ∙ done i below
      | inr above ↦
          let j = (i - 32 * k) / 2 in
          elim (cases_eq (i % 2) 0) [
            | inl e ↦
                let at : i ≡ 32 * k + 2 * j = omega arith in
                let from : 16 * k + j ≡ i / 2 + 512 * (i % 2) = omega arith in
                ap new at ∙ (even j (omega arith) ∙ ap word from)
            | inr o ↦
                let at : i ≡ 32 * k + (2 * j + 1) = omega arith in
                let from : 16 * k + 512 + j ≡ i / 2 + 512 * (i % 2) = omega arith in
                ap new at ∙ (odd j (omega arith) ∙ ap word from)
          ]
    ]

abbrev half_of : ℕ → ℕ
half_of i = i / 2 + 512 * (i % 2)

-- after three turns the eight rows of a column stand next to each other
pub turned_thrice : (stored one two three : ℕ → ℕ)
    → ((i : ℕ) → i < 1024 → one i ≡ stored (half_of i))
    → ((i : ℕ) → i < 1024 → two i ≡ one (half_of i))
    → ((i : ℕ) → i < 1024 → three i ≡ two (half_of i))
    → (i : ℕ) → i < 1024 → three i ≡ stored (i / 8 + 128 * (i % 8))
turned_thrice stored one two three a b c i h =
    let p : half_of i < 1024 = omega arith in
    let q : half_of (half_of i) < 1024 = omega arith in
    let e : half_of (half_of (half_of i)) ≡ i / 8 + 128 * (i % 8) = omega arith in
    c i h ∙ (b (half_of i) p ∙ (a (half_of (half_of i)) q ∙ ap stored e))

-- ---- four rows of sixteen lanes
-- the words of the two halves in turn, after the two steps
pub rows_in_turn : (word one new : ℕ → ℕ)
    → ((j : ℕ) → j < 16 → one (0 + 2 * j) ≡ word (0 + j))
    → ((j : ℕ) → j < 16 → one (0 + (2 * j + 1)) ≡ word (32 + j))
    → ((j : ℕ) → j < 16 → new (32 + 2 * j) ≡ word (16 + j))
    → ((j : ℕ) → j < 16 → new (32 + (2 * j + 1)) ≡ word (48 + j))
    → ((i : ℕ) → (i < 32) ⊎ (32 + 32 ≤ i) → new i ≡ one i)
    → (i : ℕ) → i < 64 → new i ≡ word (i / 2 + 32 * (i % 2))
rows_in_turn word one new even odd later_even later_odd kept i h =
    elim (cases_lt i 32) [
      | inl below ↦ elim (cases_eq (i % 2) 0) [
        | inl e ↦
            let at : i ≡ 0 + 2 * (i / 2) = omega arith in
            let from : 0 + i / 2 ≡ i / 2 + 32 * (i % 2) = omega arith in
            kept i (inl below) ∙ (ap one at ∙ (even (i / 2) (omega arith) ∙ ap word from))
        | inr o ↦
            let at : i ≡ 0 + (2 * (i / 2) + 1) = omega arith in
            let from : 32 + i / 2 ≡ i / 2 + 32 * (i % 2) = omega arith in
            kept i (inl below) ∙ (ap one at ∙ (odd (i / 2) (omega arith) ∙ ap word from))
      ]
      | inr above ↦
          let j = (i - 32) / 2 in
          elim (cases_eq (i % 2) 0) [
            | inl e ↦
                let at : i ≡ 32 + 2 * j = omega arith in
                let from : 16 + j ≡ i / 2 + 32 * (i % 2) = omega arith in
                ap new at ∙ (later_even j (omega arith) ∙ ap word from)
            | inr o ↦
                let at : i ≡ 32 + (2 * j + 1) = omega arith in
                let from : 48 + j ≡ i / 2 + 32 * (i % 2) = omega arith in
                ap new at ∙ (later_odd j (omega arith) ∙ ap word from)
          ]
    ]

-- two turns of four rows
pub turned_twice : (row half turned : ℕ → ℕ) → ((i : ℕ) → i < 64 → half i ≡ row (i / 2 + 32 * (i % 2))) → ((i : ℕ) → i < 64 → turned i ≡ half (i / 2 + 32 * (i % 2)))
    → (i : ℕ) → i < 64 → turned i ≡ row (i / 4 + 16 * (i % 4))
turned_twice row half turned first second i h =
    let there : i / 2 + 32 * (i % 2) < 64 = omega arith in
    let e : (i / 2 + 32 * (i % 2)) / 2 + 32 * ((i / 2 + 32 * (i % 2)) % 2) ≡ i / 4 + 16 * (i % 4) = omega arith in
    second i h ∙ (first (i / 2 + 32 * (i % 2)) there ∙ ap row e)
