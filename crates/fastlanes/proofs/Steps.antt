-- One row of sixteen lanes.
use Rattle.std.proofs.Common.{◌≡◌, ℕ, ◌+◌, ◌-◌, ◌*◌, ◌/◌, ◌%◌, ◌^◌, ◌<◌, ◌≤◌, ◌∙◌, ap, sym, arith, inl, inr, refl, bit_and, bit_or}
use Rattle.std.specs.Int.{bit_at}
use Rattle.std.proofs.lemmas.Nat.{div_below, mul-add-lt, mod_below, mul-le, pow_pos, and_le_r}
use Rattle.std.proofs.lemmas.Nat.Bits.{bit_at_and, bit_at_or, bit_at_ones, bit_at-lt, bit_at_above}
use Rattle.std.proofs.lemmas.Bool.{cases_lt, lt-ltb, le-ltb}
use Rattle.fastlanes.specs.Layout.{row_of, lane_of, packed_bit, unpacked_bits, unpacked_item, from_bits, IsWordWidth, bits_8, bits_16, bits_32, bits_64}
use Rattle.fastlanes.specs.Rows.{item_of_row}
use Rattle.fastlanes.proofs.BitSums.{from_bits_below, unpacked_bits_none}
use Rattle.std.proofs.Math.Pow.{pow_mono}
use Rattle.std.proofs.Math.Nat.{mod-eq_of_lt}
use Rattle.fastlanes.proofs.Shifts.{spread_bit}
use Rattle.fastlanes.proofs.Blocks.{above_zero, bit_at_low, packed_bit_small}
use Rattle.fastlanes.proofs.Shifts.{shifted_low, shifted_high, begun_bit}
use Rattle.fastlanes.proofs.RowBits.{row_item}

pub begins : (T lanes width r : ℕ) → IsWordWidth T lanes → r < T → 0 < width → (r * width / T < width) × (r * width % T < T)
begins T lanes width r shape p some =
    let positive = above_zero T lanes shape in
    let below : r * width + 0 < width * T = mul-add-lt r width 0 T p some in
    (div_below (r * width) T width positive.0 (omega arith), mod_below (r * width) T positive.0)

pub group_fits : (lanes width k g : ℕ) → k < width → 16 * g + 16 ≤ lanes → (k * lanes + 16 * g + 16 ≤ width * lanes) × (k * lanes ≤ width * lanes)
group_fits lanes width k g p q =
    let more : (k + 1) * lanes ≤ width * lanes = mul-le (k + 1) lanes width lanes (omega arith) (omega arith) in
    (omega arith, omega arith)

-- the item of one word
one_bit : (T width shift low high i : ℕ) → shift + width ≤ T → i < width → bit_at (bit_and (low / 2 ^ shift) (2 ^ width - 1)) i ≡ spread_bit T shift low high i
unfolding spread_bit
one_bit T width shift low high i within h =
    let below : shift + i < T = omega arith in
    let masked = bit_at_and (low / 2 ^ shift) (2 ^ width - 1) i in
    let ones = bit_at_ones width i h in
    let begun = begun_bit low shift i in
    let small = bit_at-lt low (shift + i) in
    let test = lt-ltb (shift + i) T below in
    rw test (omega arith)

-- the item of two words
two_bits : (T width shift low high i : ℕ) → shift < T → width ≤ T → i < width → low < 2 ^ T → bit_at (bit_and (bit_or (low / 2 ^ shift) (high * 2 ^ (T - shift) % 2 ^ T)) (2 ^ width - 1)) i ≡ spread_bit T shift low high i
unfolding spread_bit
two_bits T width shift low high i s w h fits =
    let below : i < T = omega arith in
    let masked = bit_at_and (bit_or (low / 2 ^ shift) (high * 2 ^ (T - shift) % 2 ^ T)) (2 ^ width - 1) i in
    let ones = bit_at_ones width i h in
    let merged = bit_at_or (low / 2 ^ shift) (high * 2 ^ (T - shift) % 2 ^ T) i in
    let begun = begun_bit low shift i in
    let cut = bit_at_low (high * 2 ^ (T - shift)) T i below in
    let small = bit_at-lt low (shift + i) in
    let small_high = bit_at-lt high (shift + i - T) in
    elim (cases_lt (shift + i) T) [
      | inl under ↦ let rest = shifted_low high (T - shift) i (omega arith) in let test = lt-ltb (shift + i) T under in rw test (omega arith)
      | inr over ↦
          let rest = shifted_high high (T - shift) i (omega arith) in
          let from : i - (T - shift) ≡ shift + i - T = omega arith in
          let rest' = rest ∙ ap (bit_at high) from in
          let none = bit_at_above low T (shift + i) fits over in let test = le-ltb (shift + i) T over in rw test (omega arith)
    ]

pub mask_small : (x width : ℕ) → bit_and x (2 ^ width - 1) < 2 ^ width
mask_small x width = let le = and_le_r x (2 ^ width - 1) in let p = pow_pos width in omega arith

pub last_word : (T lanes at width : ℕ) → IsWordWidth T lanes → width ≤ T → T < at % T + width → (at + (width - 1)) / T ≡ at / T + 1
last_word _ _ at width bits_8 w h = omega arith
last_word _ _ at width bits_16 w h = omega arith
last_word _ _ at width bits_32 w h = omega arith
last_word _ _ at width bits_64 w h = omega arith

pub item_of_none : (T lanes : ℕ) (word : ℕ → ℕ) (r m : ℕ) → item_of_row T lanes 0 word r m ≡ 0
unfolding item_of_row
item_of_none T lanes word r m = unpacked_bits_none T lanes 0 word r m

pub item_of_one : (T lanes width : ℕ) (word : ℕ → ℕ) (r m : ℕ) → IsWordWidth T lanes → width ≤ T → r * width % T + width ≤ T
    → bit_and (word (r * width / T * lanes + m) / 2 ^ (r * width % T)) (2 ^ width - 1) ≡ item_of_row T lanes width word r m
unfolding item_of_row
item_of_one T lanes width word r m shape w within =
    row_item T lanes width word r m _ shape w (mask_small _ width)
    (λ i h. one_bit T width (r * width % T) (word (r * width / T * lanes + m)) (word ((r * width + (width - 1)) / T * lanes + m)) i within h)

pub item_of_two : (T lanes width : ℕ) (word : ℕ → ℕ) (r m : ℕ) → IsWordWidth T lanes → width ≤ T → T < r * width % T + width → word (r * width / T * lanes + m) < 2 ^ T
    → bit_and (bit_or (word (r * width / T * lanes + m) / 2 ^ (r * width % T)) (word ((r * width / T + 1) * lanes + m) * 2 ^ (T - r * width % T) % 2 ^ T)) (2 ^ width - 1) ≡ item_of_row T lanes width word r m
unfolding item_of_row
item_of_two T lanes width word r m shape w beyond fits =
    let last = last_word T lanes (r * width) width shape w beyond in
    row_item T lanes width word r m _ shape w (mask_small _ width)
    (λ i h. two_bits T width (r * width % T) (word (r * width / T * lanes + m)) (word ((r * width / T + 1) * lanes + m)) i (mod_below (r * width) T (above_zero T lanes shape).0) w h fits
    ∙ ap (λ (n : ℕ). spread_bit T (r * width % T) (word (r * width / T * lanes + m)) (word (n * lanes + m)) i) (sym last))

pub item_of_zero : (T lanes width : ℕ) (word : ℕ → ℕ) (r m x : ℕ) → width ≡ 0 → x ≡ 0 → x ≡ item_of_row T lanes width word r m
item_of_zero T lanes width word r m x z e = rw z (e ∙ sym (item_of_none T lanes word r m))

pub one_more : (T lanes width r k shift : ℕ) → IsWordWidth T lanes → r < T → width ≤ T → 0 < width → k ≡ r * width / T → shift ≡ r * width % T → T < shift + width → k + 1 < width
one_more T lanes width r k shift shape p w some k_is shift_is beyond =
    let last = last_word T lanes (r * width) width shape w (rw shift_is at beyond) in
    let below : r * width + (width - 1) < width * T = mul-add-lt r width (width - 1) T p (omega arith) in
    let within = div_below (r * width + (width - 1)) T width (above_zero T lanes shape).0 below in
    omega arith

pub item_in_one : (T lanes width : ℕ) (word : ℕ → ℕ) (r g j k shift at x a m y : ℕ) → IsWordWidth T lanes → width ≤ T → k ≡ r * width / T → shift ≡ r * width % T → shift + width ≤ T
    → at ≡ k * lanes + 16 * g → x ≡ word (at + j) → a ≡ x / 2 ^ shift → m ≡ 2 ^ width - 1 → y ≡ bit_and a m → y ≡ item_of_row T lanes width word r (16 * g + j)
item_in_one T lanes width word r g j k shift at x a m y shape w k_is shift_is within at_is x_is a_is m_is y_is =
    let where_is : at + j ≡ r * width / T * lanes + (16 * g + j) = rw (at_is, k_is) (omega arith) in
    rw (y_is, a_is, m_is, x_is, where_is, shift_is) (item_of_one T lanes width word r (16 * g + j) shape w (rw shift_is at within))

pub item_in_two : (T lanes width : ℕ) (word : ℕ → ℕ) (r g j k shift at at2 x x2 a b e m y : ℕ) → IsWordWidth T lanes → width ≤ T → k ≡ r * width / T → shift ≡ r * width % T → T < shift + width
    → at ≡ k * lanes + 16 * g → at2 ≡ (k + 1) * lanes + 16 * g → x ≡ word (at + j) → x2 ≡ word (at2 + j) → x < 2 ^ T → a ≡ x / 2 ^ shift → b ≡ x2 * 2 ^ (T - shift) % 2 ^ T → e ≡ bit_or a b → m ≡ 2 ^ width - 1 → y ≡ bit_and e m
    → y ≡ item_of_row T lanes width word r (16 * g + j)
item_in_two T lanes width word r g j k shift at at2 x x2 a b e m y shape w k_is shift_is beyond at_is at2_is x_is x2_is small a_is b_is e_is m_is y_is =
    let where_is : at + j ≡ r * width / T * lanes + (16 * g + j) = rw (at_is, k_is) (omega arith) in
    let where_two : at2 + j ≡ (r * width / T + 1) * lanes + (16 * g + j) = rw (at2_is, k_is) (omega arith) in
    rw (y_is, e_is, a_is, b_is, m_is, x_is, x2_is, where_is, where_two, shift_is) (item_of_two T lanes width word r (16 * g + j) shape w (rw shift_is at beyond) (rw (x_is, where_is) at small))

-- an item has no more bits than its word
pub item_small : (T lanes width : ℕ) (word : ℕ → ℕ) (r m : ℕ) → width ≤ T → item_of_row T lanes width word r m < 2 ^ T
unfolding item_of_row unpacked_bits
item_small T lanes width word r m w =
    let below : from_bits (λ b. packed_bit T lanes word m (r * width + b)) width < 2 ^ width = from_bits_below (λ b. packed_bit T lanes word m (r * width + b)) (λ b. packed_bit_small T lanes word m (r * width + b)) width in
    let more : 2 ^ width ≤ 2 ^ T = pow_mono w in
    omega arith

item_named : (T lanes width : ℕ) (word : ℕ → ℕ) (r m : ℕ) → unpacked_bits T lanes width word r m width ≡ item_of_row T lanes width word r m
unfolding item_of_row
item_named T lanes width word r m = refl

-- nothing is added to an item
pub unframed : (T lanes width : ℕ) (word : ℕ → ℕ) (i x : ℕ) → width ≤ T → x ≡ 0 → (unpacked_item T lanes width word i + x) % 2 ^ T ≡ unpacked_item T lanes width word i
unfolding unpacked_item
unframed T lanes width word i x w e =
    let small = item_small T lanes width word (row_of lanes i) (lane_of lanes i) w in
    let whole : item_of_row T lanes width word (row_of lanes i) (lane_of lanes i) + 0 ≡ item_of_row T lanes width word (row_of lanes i) (lane_of lanes i) = omega arith in
    rw (e, item_named T lanes width word (row_of lanes i) (lane_of lanes i), whole) (mod-eq_of_lt small)
