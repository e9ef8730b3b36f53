-- Rows that are written one after another.
use Rattle.std.proofs.Common.{◌≡◌, ◌⊎◌, ℕ, ◌+◌, ◌-◌, ◌*◌, ◌/◌, ◌%◌, ◌^◌, ◌<◌, ◌≤◌, ◌∙◌, ap, sym, arith, inl, inr, refl}
use Rattle.std.proofs.lemmas.Nat.{mul-le, div-add-mod', mod_below, div_below}
use Rattle.std.proofs.Math.Nat.{mul-div_cancel_left}
use Rattle.std.proofs.lemmas.Bool.{cases_lt, cases_eq}
use Rattle.fastlanes.specs.Layout.{place, row_of, lane_of, unpacked_bits, unpacked_item, Packed, IsWordWidth, bits_8, bits_16, bits_32, bits_64}
use Rattle.fastlanes.specs.Rows.{WritesRows, item_of_row, item_with_reference, packed_word, word_index}
use Rattle.fastlanes.proofs.Blocks.{above_zero, packed_from_words}
use Rattle.fastlanes.proofs.Bijection.{position_placed}
use Rattle.fastlanes.proofs.RowBits.{row_apart, place_more}

-- the first row of group 0 and so on, one group after another
pub written_none : (rows lanes : ℕ) (at value : ℕ → ℕ → ℕ) (g from to : ℕ) (old : ℕ → ℕ) → to ≡ from → WritesRows rows lanes at value g from to old old
written_none rows lanes at value g from to old e = record {
  done = λ s j p q h. absurd (omega arith);
  others = λ s m p q away. refl;
}

pub written_more : (rows lanes : ℕ) (at value : ℕ → ℕ → ℕ) (g from mid mid2 to to2 : ℕ) (old between new : ℕ → ℕ) → 16 * g + 16 ≤ lanes → from ≤ mid → mid ≤ to → to ≤ rows → mid2 ≡ mid → to2 ≡ to
    → WritesRows rows lanes at value g from mid old between → WritesRows rows lanes at value g mid2 to between new → WritesRows rows lanes at value g from to2 old new
written_more rows lanes at value g from mid mid2 to to2 old between new room p q t e f first second = record {
  done = λ s j a b h. elim (cases_lt s mid) [
    | inl below ↦ second.others s (16 * g + j) (omega arith) (omega arith) (inl (omega arith)) ∙ first.done s j a below h
    | inr above ↦ second.done s j (omega arith) (omega arith) h
  ];
  others = λ s m a b away. second.others s m a b (later away) ∙ first.others s m a b (sooner away);
}
  where
    later : {s m : ℕ} → (s < from) ⊎ (to2 ≤ s) ⊎ (m < 16 * g) ⊎ (16 * g + 16 ≤ m) → (s < mid2) ⊎ (to ≤ s) ⊎ (m < 16 * g) ⊎ (16 * g + 16 ≤ m)
    later (inl h) = inl (omega arith)
    later (inr (inl h)) = inr (inl (omega arith))
    later (inr (inr h)) = inr (inr h)

    sooner : {s m : ℕ} → (s < from) ⊎ (to2 ≤ s) ⊎ (m < 16 * g) ⊎ (16 * g + 16 ≤ m) → (s < from) ⊎ (mid ≤ s) ⊎ (m < 16 * g) ⊎ (16 * g + 16 ≤ m)
    sooner (inl h) = inl h
    sooner (inr (inl h)) = inr (inl (omega arith))
    sooner (inr (inr h)) = inr (inr h)

pub groups_more : (rows lanes : ℕ) (at value : ℕ → ℕ → ℕ) (g : ℕ) (old new : ℕ → ℕ) → 16 * g + 16 ≤ lanes → WritesRows rows lanes at value g 0 rows old new
    → ((s m : ℕ) → s < rows → m < 16 * g → old (at s m) ≡ value s m) → (s m : ℕ) → s < rows → m < 16 * (g + 1) → new (at s m) ≡ value s m
groups_more rows lanes at value g old new room written before s m p q =
    elim (cases_lt m (16 * g)) [
      | inl below ↦ written.others s m p (omega arith) (inr (inr (inl below))) ∙ before s m p below
      | inr above ↦
          let lane : 16 * g + (m - 16 * g) ≡ m = omega arith in
          rw lane at (written.done s (m - 16 * g) (omega arith) p (omega arith))
    ]

place_alone : (r m : ℕ) → place r m ≡ place r 0 + m
unfolding place
place_alone r m = omega arith

-- a row of sixteen items
pub row_written : (T lanes : ℕ) (value : ℕ → ℕ → ℕ) (g r to : ℕ) (old new lane : ℕ → ℕ) → IsWordWidth T lanes → r < T → 16 * g + 16 ≤ lanes → to ≡ place r (16 * g)
    → ((j : ℕ) → j < 16 → new (to + j) ≡ lane j) → ((i : ℕ) → (i < to) ⊎ (to + 16 ≤ i) → new i ≡ old i) → ((j : ℕ) → j < 16 → lane j ≡ value r (16 * g + j))
    → WritesRows T lanes place value g r (r + 1) old new
row_written T lanes value g r to old new lane shape p room to_is stored apart is = record {
  done = λ s j a b h.
      let same : s ≡ r = omega arith in
      let there : place r (16 * g + j) ≡ to + j = place_more r (16 * g) j ∙ ap (λ (n : ℕ). n + j) (sym to_is) in
      rw (same, there) (stored j h ∙ is j h);
  others = λ s m a b away. apart (place s m) (elim (cases_eq s r) [
    | inr other ↦ rw to_is (row_apart T lanes r s (16 * g) m shape p a room b other)
    | inl same ↦ rw (to_is, same) (beside away same)
  ]);
}
  where
    beside : {s m : ℕ} → (s < r) ⊎ (r + 1 ≤ s) ⊎ (m < 16 * g) ⊎ (16 * g + 16 ≤ m) → s ≡ r → (place r m < place r (16 * g)) ⊎ (place r (16 * g) + 16 ≤ place r m)
    beside (inl h) e = absurd (omega arith)
    beside (inr (inl h)) e = absurd (omega arith)
    beside {s} {m} (inr (inr (inl h))) e = let one = place_alone r m in let two = place_alone r (16 * g) in inl (omega arith)
    beside {s} {m} (inr (inr (inr h))) e = let one = place_alone r m in let two = place_alone r (16 * g) in inr (omega arith)

pub whole_eights : (T lanes : ℕ) → IsWordWidth T lanes → (8 * (T / 8) ≡ T) × (16 * (lanes / 16) ≡ lanes)
whole_eights _ _ bits_8 = (refl, refl)
whole_eights _ _ bits_16 = (refl, refl)
whole_eights _ _ bits_32 = (refl, refl)
whole_eights _ _ bits_64 = (refl, refl)

-- a word whose bits are neither 8 nor 16 nor 32 has 64
pub widest : (T lanes t : ℕ) → IsWordWidth T lanes → t ≡ T → (t ≡ 8 → ⊥) → (t ≡ 16 → ⊥) → (t ≡ 32 → ⊥) → T ≡ 64
widest _ _ t bits_8 e not_8 not_16 not_32 = absurd (not_8 e)
widest _ _ t bits_16 e not_8 not_16 not_32 = absurd (not_16 e)
widest _ _ t bits_32 e not_8 not_16 not_32 = absurd (not_32 e)
widest _ _ t bits_64 e not_8 not_16 not_32 = refl

pub has_64_rows : (T lanes t : ℕ) → IsWordWidth T lanes → t ≡ T → (t ≡ 8 → ⊥) → (t ≡ 16 → ⊥) → (t ≡ 32 → ⊥) → 64 ≤ T
has_64_rows T lanes t shape e not_8 not_16 not_32 = let wide = widest T lanes t shape e not_8 not_16 not_32 in omega arith

-- the rows of a word of more than 8 bits are parts of sixteen
pub whole_parts : (T lanes t : ℕ) → IsWordWidth T lanes → t ≡ T → (t ≡ 8 → ⊥) → 16 * (t / 16) ≡ T
whole_parts _ _ t bits_8 e not_8 = absurd (not_8 e)
whole_parts _ _ t bits_16 e not_8 = rw e refl
whole_parts _ _ t bits_32 e not_8 = rw e refl
whole_parts _ _ t bits_64 e not_8 = rw e refl

pub has_four_parts : (T lanes part : ℕ) → IsWordWidth T lanes → 16 * part + 16 ≤ T → part < 4
has_four_parts _ _ part bits_8 h = omega arith
has_four_parts _ _ part bits_16 h = omega arith
has_four_parts _ _ part bits_32 h = omega arith
has_four_parts _ _ part bits_64 h = omega arith

pub written_all : (rows lanes : ℕ) (at value : ℕ → ℕ → ℕ) (g to : ℕ) (old new : ℕ → ℕ) → to ≡ rows → WritesRows rows lanes at value g 0 to old new → WritesRows rows lanes at value g 0 rows old new
written_all rows lanes at value g to old new e written = rw e at written

-- sixteen words
word_apart : (T lanes : ℕ) (g k s m : ℕ) → IsWordWidth T lanes → 16 * g + 16 ≤ lanes → m < lanes → (s < k) ⊎ (k + 1 ≤ s) ⊎ (m < 16 * g) ⊎ (16 * g + 16 ≤ m)
    → (s * lanes + m < k * lanes + 16 * g) ⊎ (k * lanes + 16 * g + 16 ≤ s * lanes + m)
word_apart T lanes g k s m shape room b away =
    elim (cases_lt s k) [
      | inl under ↦ let more : (s + 1) * lanes ≤ k * lanes = mul-le (s + 1) lanes k lanes (omega arith) (omega arith) in inl (omega arith)
      | inr from ↦ elim (cases_lt k s) [
        | inl over ↦ let more : (k + 1) * lanes ≤ s * lanes = mul-le (k + 1) lanes s lanes (omega arith) (omega arith) in inr (omega arith)
        | inr to ↦ let same : s ≡ k = omega arith in rw same (beside away same)
      ]
    ]
  where
    beside : (s < k) ⊎ (k + 1 ≤ s) ⊎ (m < 16 * g) ⊎ (16 * g + 16 ≤ m) → s ≡ k → (k * lanes + m < k * lanes + 16 * g) ⊎ (k * lanes + 16 * g + 16 ≤ k * lanes + m)
    beside (inl h) e = absurd (omega arith)
    beside (inr (inl h)) e = absurd (omega arith)
    beside (inr (inr (inl h))) e = inl (omega arith)
    beside (inr (inr (inr h))) e = inr (omega arith)

pub words_written : (T lanes width : ℕ) (value : ℕ → ℕ → ℕ) (g k from to at : ℕ) (old new lane : ℕ → ℕ) → IsWordWidth T lanes → 16 * g + 16 ≤ lanes → from ≡ k → to ≡ k + 1 → at ≡ k * lanes + 16 * g
    → ((j : ℕ) → j < 16 → new (at + j) ≡ lane j) → ((i : ℕ) → (i < at) ⊎ (at + 16 ≤ i) → new i ≡ old i) → ((j : ℕ) → j < 16 → lane j ≡ value k (16 * g + j))
    → WritesRows width lanes (word_index lanes) value g from to old new
unfolding word_index
words_written T lanes width value g k from to at old new lane shape room from_is to_is at_is stored apart is = record {
  done = λ s j a b h.
      let same : s ≡ k = omega arith in
      let there : k * lanes + (16 * g + j) ≡ at + j = omega arith in
      rw (same, there) (stored j h ∙ is j h);
  others = λ s m a b away. apart (s * lanes + m) (rw at_is (word_apart T lanes g k s m shape room b (rw (from_is, to_is) at away)));
}

pub words_packed : (T lanes width groups : ℕ) (item words : ℕ → ℕ) → IsWordWidth T lanes → 16 * groups ≡ lanes
    → ((s m : ℕ) → s < width → m < 16 * groups → words (word_index lanes s m) ≡ packed_word T width item s m) → Packed T lanes width item words
unfolding word_index packed_word
words_packed T lanes width groups item words shape all each =
    packed_from_words T lanes width item words shape (λ m h.
    let positive = above_zero T lanes shape in
    let k_below : m / lanes < width = div_below m lanes width positive.1 h in
    let l_below : m % lanes < lanes = mod_below m lanes positive.1 in
    ap words (sym (div-add-mod' m lanes)) ∙ each (m / lanes) (m % lanes) k_below (omega arith))

pub item_here : (item : ℕ → ℕ) (r g j to : ℕ) → to ≡ place r (16 * g) → item (to + j) ≡ item (place r (16 * g + j))
item_here item r g j to e = ap item (ap (λ (n : ℕ). n + j) e ∙ sym (place_more r (16 * g) j))

div_up : (a b T : ℕ) → 0 < T → a ≤ b → a / T ≤ b / T
div_up a b T some h =
    let whole : b / T * T + b % T ≡ b = div-add-mod' b T in
    let part = mod_below b T some in
    let under : a < (b / T + 1) * T = omega arith in
    let less : a / T < b / T + 1 = div_below a T (b / T + 1) some under in
    omega arith

-- the words of more rows
pub words_more : (T lanes width : ℕ) (value : ℕ → ℕ → ℕ) (g r a a2 b : ℕ) (old between new : ℕ → ℕ) → IsWordWidth T lanes → 16 * g + 16 ≤ lanes → r ≤ a → a ≤ b → b ≤ T → a2 ≡ a
    → WritesRows width lanes (word_index lanes) value g (r * width / T) (a * width / T) old between → WritesRows width lanes (word_index lanes) value g (a2 * width / T) (b * width / T) between new
    → WritesRows width lanes (word_index lanes) value g (r * width / T) (b * width / T) old new
words_more T lanes width value g r a a2 b old between new shape room p q t e first second =
    let some = (above_zero T lanes shape).0 in
    let one = div_up (r * width) (a * width) T some (mul-le r width a width p (omega arith)) in
    let two = div_up (a * width) (b * width) T some (mul-le a width b width q (omega arith)) in
    let three = div_up (b * width) (T * width) T some (mul-le b width T width t (omega arith)) in
    let whole : T * width / T ≡ width = mul-div_cancel_left width (above_zero T lanes shape).0 in
    written_more width lanes (word_index lanes) value g (r * width / T) (a * width / T) (a2 * width / T) (b * width / T) (b * width / T) old between new room one two (omega arith) (rw e refl) refl first second

pub sums_written : (T lanes width groups : ℕ) (word items more : ℕ → ℕ) (x i : ℕ) → IsWordWidth T lanes → 16 * groups ≡ lanes → i < 1024 → ((j : ℕ) → j < 16 → more j ≡ x)
    → ((s m : ℕ) → s < T → m < 16 * groups → items (place s m) ≡ item_with_reference T lanes width word more s m) → items i ≡ (unpacked_item T lanes width word i + x) % 2 ^ T
unfolding unpacked_item item_of_row item_with_reference
sums_written T lanes width groups word items more x i shape all h same each =
    let placed = position_placed T lanes i shape h in
    ap items (sym placed.0) ∙ (each (row_of lanes i) (lane_of lanes i) placed.1 (omega arith)
    ∙ ap (λ (n : ℕ). (unpacked_bits T lanes width word (row_of lanes i) (lane_of lanes i) width + n) % 2 ^ T) (same (lane_of lanes i % 16) (omega arith)))

pub sum_here : (T lanes width : ℕ) (word more : ℕ → ℕ) (r g j a y : ℕ) → j < 16 → a ≡ item_of_row T lanes width word r (16 * g + j) → y ≡ (a + more j) % 2 ^ T → y ≡ item_with_reference T lanes width word more r (16 * g + j)
unfolding item_with_reference
sum_here T lanes width word more r g j a y p e h = let k : (16 * g + j) % 16 ≡ j = omega arith in rw (h, e, k) refl
