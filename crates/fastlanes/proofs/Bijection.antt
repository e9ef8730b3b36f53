-- Rows and lanes, and positions, name each other: a table of 1024 places, by computation.
use Rattle.std.proofs.Common.{◌≡◌, ℕ, zero, suc, ◌+◌, ◌<◌, refl, arith, Bool, true, inl, inr, subst}
use Rattle.std.specs.Prelude.{◌&&◌, nat_eq, nat_lt}
use Rattle.std.proofs.lemmas.Bool.{and_parts, eqb-true, ltb-true, cases_lt}
use Rattle.fastlanes.specs.Layout.{place, row_of, lane_of, segment, segment_lane, segment_row, IsWordWidth, bits_8, bits_16, bits_32, bits_64}

-- the test holds of each number below n
abbrev pub all_below : ℕ → (ℕ → Bool) → Bool
all_below zero p = true
all_below (suc n) p = p n && all_below n p

pub below_true : (n : ℕ) (p : ℕ → Bool) (k : ℕ) → all_below n p ≡ true → k < n → p k ≡ true
below_true zero p k e h = absurd (omega arith)
below_true (suc n) p k e h =
    let both = and_parts (p n) (all_below n p) e in
    elim (cases_lt k n) [ inl l ↦ below_true n p k both.1 l | inr l ↦ let s : n ≡ k = omega arith in subst (λ m. p m ≡ true) s both.0 ]

-- ---- the places of items
abbrev place_back : ℕ → ℕ → ℕ → Bool
place_back T lanes i = nat_eq (place (row_of lanes i) (lane_of lanes i)) i && (nat_lt (row_of lanes i) T && nat_lt (lane_of lanes i) lanes)

abbrev place_there : ℕ → ℕ → ℕ → ℕ → Bool
place_there T lanes r l = nat_eq (row_of lanes (place r l)) r && (nat_eq (lane_of lanes (place r l)) l && nat_lt (place r l) 1024)

back_checked : (T lanes : ℕ) → IsWordWidth T lanes → all_below 1024 (place_back T lanes) ≡ true
unfolding place row_of
back_checked _ _ bits_8 = refl
back_checked _ _ bits_16 = refl
back_checked _ _ bits_32 = refl
back_checked _ _ bits_64 = refl

there_checked : (T lanes : ℕ) → IsWordWidth T lanes → all_below T (λ r. all_below lanes (place_there T lanes r)) ≡ true
unfolding place row_of
there_checked _ _ bits_8 = refl
there_checked _ _ bits_16 = refl
there_checked _ _ bits_32 = refl
there_checked _ _ bits_64 = refl

pub position_placed : (T lanes i : ℕ) → IsWordWidth T lanes → i < 1024 → (place (row_of lanes i) (lane_of lanes i) ≡ i) × (row_of lanes i < T) × (lane_of lanes i < lanes)
position_placed T lanes i shape h =
    let e = below_true 1024 (place_back T lanes) i (back_checked T lanes shape) h in
    let a = and_parts (nat_eq (place (row_of lanes i) (lane_of lanes i)) i) (nat_lt (row_of lanes i) T && nat_lt (lane_of lanes i) lanes) e in
    let b = and_parts (nat_lt (row_of lanes i) T) (nat_lt (lane_of lanes i) lanes) a.1 in
    (eqb-true _ _ a.0, ltb-true _ _ b.0, ltb-true _ _ b.1)

pub place_read : (T lanes r l : ℕ) → IsWordWidth T lanes → r < T → l < lanes → (row_of lanes (place r l) ≡ r) × (lane_of lanes (place r l) ≡ l) × (place r l < 1024)
place_read T lanes r l shape p q =
    let e = below_true lanes (place_there T lanes r) l (below_true T (λ s. all_below lanes (place_there T lanes s)) r (there_checked T lanes shape) p) q in
    let a = and_parts (nat_eq (row_of lanes (place r l)) r) (nat_eq (lane_of lanes (place r l)) l && nat_lt (place r l) 1024) e in
    let b = and_parts (nat_eq (lane_of lanes (place r l)) l) (nat_lt (place r l) 1024) a.1 in
    (eqb-true _ _ a.0, eqb-true _ _ b.0, ltb-true _ _ b.1)

-- ---- the segments of delta blocks
abbrev segment_back : ℕ → ℕ → ℕ → Bool
segment_back T lanes i = nat_eq (segment (segment_lane T i) + segment_row T i) i && (nat_lt (segment_row T i) T && nat_lt (segment_lane T i) lanes)

abbrev segment_there : ℕ → ℕ → ℕ → ℕ → Bool
segment_there T lanes r l = nat_eq (segment_row T (segment l + r)) r && (nat_eq (segment_lane T (segment l + r)) l && nat_lt (segment l + r) 1024)

segment_back_checked : (T lanes : ℕ) → IsWordWidth T lanes → all_below 1024 (segment_back T lanes) ≡ true
unfolding segment segment_lane
segment_back_checked _ _ bits_8 = refl
segment_back_checked _ _ bits_16 = refl
segment_back_checked _ _ bits_32 = refl
segment_back_checked _ _ bits_64 = refl

segment_there_checked : (T lanes : ℕ) → IsWordWidth T lanes → all_below T (λ r. all_below lanes (segment_there T lanes r)) ≡ true
unfolding segment segment_lane
segment_there_checked _ _ bits_8 = refl
segment_there_checked _ _ bits_16 = refl
segment_there_checked _ _ bits_32 = refl
segment_there_checked _ _ bits_64 = refl

pub segment_placed : (T lanes i : ℕ) → IsWordWidth T lanes → i < 1024 → (segment (segment_lane T i) + segment_row T i ≡ i) × (segment_row T i < T) × (segment_lane T i < lanes)
segment_placed T lanes i shape h =
    let e = below_true 1024 (segment_back T lanes) i (segment_back_checked T lanes shape) h in
    let a = and_parts (nat_eq (segment (segment_lane T i) + segment_row T i) i) (nat_lt (segment_row T i) T && nat_lt (segment_lane T i) lanes) e in
    let b = and_parts (nat_lt (segment_row T i) T) (nat_lt (segment_lane T i) lanes) a.1 in
    (eqb-true _ _ a.0, ltb-true _ _ b.0, ltb-true _ _ b.1)

pub segment_read : (T lanes r l : ℕ) → IsWordWidth T lanes → r < T → l < lanes → (segment_row T (segment l + r) ≡ r) × (segment_lane T (segment l + r) ≡ l) × (segment l + r < 1024)
segment_read T lanes r l shape p q =
    let e = below_true lanes (segment_there T lanes r) l (below_true T (λ s. all_below lanes (segment_there T lanes s)) r (segment_there_checked T lanes shape) p) q in
    let a = and_parts (nat_eq (segment_row T (segment l + r)) r) (nat_eq (segment_lane T (segment l + r)) l && nat_lt (segment l + r) 1024) e in
    let b = and_parts (nat_eq (segment_lane T (segment l + r)) l) (nat_lt (segment l + r) 1024) a.1 in
    (eqb-true _ _ a.0, eqb-true _ _ b.0, ltb-true _ _ b.1)
