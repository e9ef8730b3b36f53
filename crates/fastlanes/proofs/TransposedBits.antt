-- Bits in the order of the lanes and in that of the items.
use Rattle.std.proofs.Common.{◌≡◌, ℕ, zero, suc, ◌+◌, ◌-◌, ◌*◌, ◌/◌, ◌%◌, ◌^◌, ◌<◌, ◌≤◌, ◌∙◌, ap, sym, arith, refl, List, length, map, replicate, get_or, Bool, true, false, cond, leb, lit≤, w8, inl, inr, set, length-set, get_or-set_same, get_or-set_other}
use Rattle.std.specs.Prelude.{slice_index, nat_eq}
use Rattle.std.specs.Simd.Lanes.{chunk, zip2, mask_l, top}
use Rattle.std.proofs.lemmas.Simd.{get_or-chunk, length-chunk, get_or-zip2, length-zip2, get_or-replicate, length-replicate, bit_mask_l, mask_l-mod, tops_compared}
use Rattle.std.proofs.lemmas.Nat.{pow-add}
use Rattle.std.proofs.lemmas.Bool.{cases_lt, cases_eq}
use Rattle.std.proofs.lemmas.Bool.Decides.{nat_tests}
use Rattle.std.proofs.Math.Nat.{mul_assoc}
use Rattle.fastlanes.specs.Layout.{place, row_of, lane_of, word_at, IsWordWidth, bits_8, bits_16, bits_32, bits_64}
use Rattle.fastlanes.specs.Compared.{is_bit_set, has_bit}
use Rattle.fastlanes.proofs.Bijection.{place_read}
use Rattle.fastlanes.proofs.ByteBits.{word_bit}

-- bit i of these words is a bit of their bytes
pub byte_bit : (bytes words : List ℕ) (i : ℕ) → ((k : ℕ) → slice_index bytes k < 256) → ((k : ℕ) → k < 16 → word_at 64 bytes k ≡ slice_index words k) → i < 1024
    → has_bit words i ≡ is_bit_set (slice_index bytes (i / 8)) (i % 8)
unfolding is_bit_set has_bit
byte_bit bytes words i small same h =
    let k : i / 64 < 16 = omega arith in
    let r : i % 64 < 64 = omega arith in
    let here = word_bit 64 16 bytes (i / 64) (i % 64) bits_64 small r in
    let whole : i / 64 * 64 + i % 64 ≡ i = omega arith in
    rw (sym (same (i / 64) k)) (ap (λ (n : ℕ). nat_eq n 1) (rw whole at here))

-- ---- the top bit of each byte
value_of : (on : Bool) → nat_eq (cond on 1 0) 1 ≡ on
value_of true = refl
value_of false = refl

pub top_bit : (xs : List ℕ) (m : ℕ) → length xs ≡ 64 → m < 64
    → is_bit_set (mask_l (map (top 7) (zip2 (λ (a b : ℕ). cond (leb a b) (2 ^ 8 - 1) 0) (replicate 64 128) xs)) % 2 ^ 64) m ≡ leb 128 (slice_index xs m)
unfolding is_bit_set
top_bit xs m long h =
    let one : get_or (zip2 leb (replicate 64 128) xs) m false ≡ leb (get_or (replicate 64 128) m 0) (get_or xs m 0) =
    get_or-zip2 leb (replicate 64 128) xs m 0 0 false (rw (length-replicate {A = ℕ} 64 128) h) (rw long h) in
    let whole : length (zip2 leb (replicate 64 128) xs) ≡ 64 = length-zip2 leb (replicate 64 128) xs (length-replicate {A = ℕ} 64 128 ∙ sym long) ∙ length-replicate {A = ℕ} 64 128 in
    rw (
      tops_compared w8 leb (replicate 64 128) xs,
      mask_l-mod (zip2 leb (replicate 64 128) xs) 64 (rw whole (lit≤ tt)),
      bit_mask_l (zip2 leb (replicate 64 128) xs) m,
      one,
      get_or-replicate {A = ℕ} 64 m 128 0 h,
    )
    (value_of _)

-- a vector of the 64 bytes from at on, each doubled s times
pub record Doubled (bytes : List ℕ) (at s : ℕ) (lanes : List ℕ) : Type 0 where
  pub whole : length lanes ≡ 64
  pub each : (m : ℕ) → m < 64 → slice_index lanes m ≡ slice_index bytes (at + m) * 2 ^ s % 256

pub doubled_none : (bytes : List ℕ) (at : ℕ) → at + 64 ≤ length bytes → ((k : ℕ) → slice_index bytes k < 256) → Doubled bytes at 0 (chunk at 64 bytes)
doubled_none bytes at room small = record {
  whole = length-chunk at 64 bytes room;
  each = λ m h.
      let less = small (at + m) in
      let same : slice_index bytes (at + m) * 1 % 256 ≡ slice_index bytes (at + m) = omega arith in
      get_or-chunk at 64 bytes m 0 h ∙ sym same;
}

twice : (b s : ℕ) → (b * 2 ^ s % 256 + b * 2 ^ s % 256) % 256 ≡ b * 2 ^ (s + 1) % 256
twice b s =
    let next : 2 ^ (s + 1) ≡ 2 ^ s * 2 = pow-add 2 s 1 in
    let whole : b * (2 ^ s * 2) ≡ b * 2 ^ s * 2 = sym (mul_assoc b (2 ^ s) 2) in
    rw (next, whole) (omega arith)

pub doubled_more : (bytes lanes : List ℕ) (at s : ℕ) → Doubled bytes at s lanes → Doubled bytes at (s + 1) (zip2 (λ (a b : ℕ). (a + b) % 2 ^ 8) lanes lanes)
doubled_more bytes lanes at s d = record {
  whole = length-zip2 (λ (a b : ℕ). (a + b) % 2 ^ 8) lanes lanes refl ∙ d.whole;
  each = λ m h.
      get_or-zip2 (λ (a b : ℕ). (a + b) % 2 ^ 8) lanes lanes m 0 0 0 (rw d.whole h) (rw d.whole h)
      ∙ (ap (λ (n : ℕ). (n + n) % 256) (d.each m h) ∙ twice (slice_index bytes (at + m)) s);
}

-- the top bit, after s doublings, is bit 7 - s
high_bit : (r n : ℕ) → (128 ≤ r → n ≡ 1) → (r < 128 → n ≡ 0) → leb 128 r ≡ nat_eq n 1
high_bit r n p q = elim (cases_lt r 128) [
  | inl low ↦ rw (q low) (grind (arith, nat_tests))
  | inr high ↦ rw (p high) (grind (arith, nat_tests))
]

top_after : (b s : ℕ) → s < 8 → leb 128 (b * 2 ^ s % 256) ≡ is_bit_set b (7 - s)
unfolding is_bit_set
top_after b zero h = high_bit _ _ (omega arith) (omega arith)
top_after b (suc zero) h = high_bit _ _ (omega arith) (omega arith)
top_after b (suc (suc zero)) h = high_bit _ _ (omega arith) (omega arith)
top_after b (suc (suc (suc zero))) h = high_bit _ _ (omega arith) (omega arith)
top_after b (suc (suc (suc (suc zero)))) h = high_bit _ _ (omega arith) (omega arith)
top_after b (suc (suc (suc (suc (suc zero))))) h = high_bit _ _ (omega arith) (omega arith)
top_after b (suc (suc (suc (suc (suc (suc zero)))))) h = high_bit _ _ (omega arith) (omega arith)
top_after b (suc (suc (suc (suc (suc (suc (suc zero))))))) h = high_bit _ _ (omega arith) (omega arith)
top_after b (suc (suc (suc (suc (suc (suc (suc (suc s)))))))) h = absurd (omega arith)

pub doubled_top : (bytes lanes : List ℕ) (at s m : ℕ) → Doubled bytes at s lanes → s < 8 → m < 64 → leb 128 (slice_index lanes m) ≡ is_bit_set (slice_index bytes (at + m)) (7 - s)
doubled_top bytes lanes at s m d h p = ap (leb 128) (d.each m p) ∙ top_after (slice_index bytes (at + m)) s h

-- the step of the loop that writes the words of bit 7 - s, from which on those above stand
pub words_more : (bytes output : List ℕ) (s low high j m : ℕ) → s < 8 → length output ≡ 16 → j < 16 → 16 ≤ j + 2 * (s + 1) → m < 64
    → is_bit_set low m ≡ is_bit_set (slice_index bytes (0 + m)) (7 - s)
    → is_bit_set high m ≡ is_bit_set (slice_index bytes (64 + m)) (7 - s)
    → (16 ≤ j + 2 * s → is_bit_set (slice_index output j) m ≡ is_bit_set (slice_index bytes (64 * (j % 2) + m)) (j / 2))
    → is_bit_set (slice_index (set (set output (2 * (7 - s)) low) (2 * (7 - s) + 1) high) j) m ≡ is_bit_set (slice_index bytes (64 * (j % 2) + m)) (j / 2)
words_more bytes output s low high j m h long p q r first second done =
    let one = set output (2 * (7 - s)) low in
    let whole : length one ≡ 16 = rw length-set long in
    elim (cases_eq j (2 * (7 - s) + 1)) [
      | inl odd ↦
          let place : 64 * (j % 2) + m ≡ 64 + m = omega arith in
          let bit : j / 2 ≡ 7 - s = omega arith in
          rw (place, bit, odd, get_or-set_same one (2 * (7 - s) + 1) high 0 (omega arith)) second
      | inr other ↦ rw (get_or-set_other one (2 * (7 - s) + 1) j high 0 other)
          (elim (cases_eq j (2 * (7 - s))) [
            | inl even ↦
                let place : 64 * (j % 2) + m ≡ 0 + m = omega arith in
                let bit : j / 2 ≡ 7 - s = omega arith in
                rw (place, bit, even, get_or-set_same output (2 * (7 - s)) low 0 (omega arith)) first
            | inr old ↦ rw (get_or-set_other output (2 * (7 - s)) j low 0 old) (done (omega arith))
          ])
    ]

-- ---- the places of the rows of an eighth
pub eighth_place : (r l : ℕ) → place r l ≡ 128 * (r % 8) + place (8 * (r / 8)) l
unfolding place
eighth_place r l =
    let one : 8 * (r / 8) % 8 ≡ 0 = omega arith in
    let two : 8 * (r / 8) / 8 ≡ r / 8 = omega arith in
    rw (one, two) (omega arith)

first_places : (T lanes r l : ℕ) → IsWordWidth T lanes → r < T → l < lanes → (place (8 * (r / 8)) l < 128) × (8 * (r / 8) < T)
first_places T lanes r l shape p q =
    let last : 8 * (r / 8) + 7 < T = last_row T lanes r shape p in
    let there = place_read T lanes (8 * (r / 8) + 7) l shape last q in
    let one : (8 * (r / 8) + 7) % 8 ≡ 7 = omega arith in
    let two : (8 * (r / 8) + 7) / 8 ≡ r / 8 = omega arith in
    let parts = rw (one, two) at (eighth_place (8 * (r / 8) + 7) l) in
    (omega arith, omega arith)
  where
    last_row : (T lanes r : ℕ) → IsWordWidth T lanes → r < T → 8 * (r / 8) + 7 < T
    last_row _ _ r bits_8 p = omega arith
    last_row _ _ r bits_16 p = omega arith
    last_row _ _ r bits_32 p = omega arith
    last_row _ _ r bits_64 p = omega arith

bit_in_lane : (T lanes r l : ℕ) → IsWordWidth T lanes → r < T → l < lanes → (l * T + r < 1024) × ((l * T + r) / 8 ≡ l * (T / 8) + r / 8) × ((l * T + r) % 8 ≡ r % 8)
bit_in_lane _ _ r l bits_8 p q = (omega arith, omega arith, omega arith)
bit_in_lane _ _ r l bits_16 p q = (omega arith, omega arith, omega arith)
bit_in_lane _ _ r l bits_32 p q = (omega arith, omega arith, omega arith)
bit_in_lane _ _ r l bits_64 p q = (omega arith, omega arith, omega arith)

pub transposed_bit : (T lanes : ℕ) (input output source bytes : List ℕ) (r l : ℕ) → IsWordWidth T lanes → r < T → l < lanes
    → ((j m : ℕ) → j < 16 → m < 64 → is_bit_set (slice_index output j) m ≡ is_bit_set (slice_index bytes (64 * (j % 2) + m)) (j / 2))
    → ((m : ℕ) → m < 128 → slice_index bytes m ≡ slice_index source (lane_of lanes m * (T / 8) + row_of lanes m / 8))
    → ((i : ℕ) → i < 1024 → has_bit input i ≡ is_bit_set (slice_index source (i / 8)) (i % 8))
    → has_bit output (place r l) ≡ has_bit input (l * T + r)
unfolding has_bit
transposed_bit T lanes input output source bytes r l shape p q transposed gathered read =
    let first = first_places T lanes r l shape p q in
    let parts = eighth_place r l in
    let named = place_read T lanes (8 * (r / 8)) l shape first.1 q in
    let within = bit_in_lane T lanes r l shape p q in
    let low : place r l / 64 % 2 ≡ place (8 * (r / 8)) l / 64 = omega arith in
    let high : place r l / 64 / 2 ≡ r % 8 = omega arith in
    let rest : 64 * (place (8 * (r / 8)) l / 64) + place r l % 64 ≡ place (8 * (r / 8)) l = omega arith in
    let eighth : 8 * (r / 8) / 8 ≡ r / 8 = omega arith in
    let one = rw (low, high, rest) at (transposed (place r l / 64) (place r l % 64) (omega arith) (omega arith)) in
    let two = rw (named.0, named.1, eighth) at (gathered (place (8 * (r / 8)) l) first.0) in
    let three = rw (within.1, within.2) at (read (l * T + r) within.0) in
    one ∙ (ap (λ (n : ℕ). is_bit_set n (r % 8)) two ∙ sym three)
