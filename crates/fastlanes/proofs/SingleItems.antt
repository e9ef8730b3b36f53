-- Single items of a packed block, of one word or of two.
use Rattle.std.proofs.Common.{◌≡◌, ℕ, zero, suc, ◌+◌, ◌-◌, ◌*◌, ◌/◌, ◌%◌, ◌^◌, ◌<◌, ◌≤◌, ◌∙◌, sym, arith, refl, bit_and, bit_or, add-one}
use Rattle.std.proofs.lemmas.Nat.{mul-le}
use Rattle.std.proofs.Math.Dec.{eqb-suc-zero}
use Rattle.fastlanes.specs.Layout.{row_of, lane_of, unpacked_item, words_of_item, IsWordWidth, bits_8, bits_16, bits_32, bits_64}
use Rattle.fastlanes.specs.Rows.{item_of_row}
use Rattle.fastlanes.specs.SingleItems.{words_at, words_of_items}
use Rattle.fastlanes.proofs.BitSums.{unpacked_bits_none}
use Rattle.fastlanes.proofs.Steps.{item_of_one, item_of_two, last_word}

pub word_inside : (lanes width k l : ℕ) → k < width → l < lanes → (k * lanes + l < width * lanes) × (k * lanes ≤ width * lanes)
word_inside lanes width k l p q =
    let more : (k + 1) * lanes ≤ width * lanes = mul-le (k + 1) lanes width lanes (omega arith) (omega arith) in
    (omega arith, omega arith)

item_at : (T lanes width : ℕ) (word : ℕ → ℕ) (i : ℕ) → item_of_row T lanes width word (row_of lanes i) (lane_of lanes i) ≡ unpacked_item T lanes width word i
unfolding item_of_row unpacked_item
item_at T lanes width word i = refl

pub single_none : (T lanes width : ℕ) (word : ℕ → ℕ) (i x : ℕ) → width ≡ 0 → x ≡ 0 → x ≡ unpacked_item T lanes width word i
unfolding unpacked_item
single_none T lanes width word i x z e = rw z (e ∙ sym (unpacked_bits_none T lanes 0 word (row_of lanes i) (lane_of lanes i)))

pub single_in_one : (T lanes width : ℕ) (word : ℕ → ℕ) (i r l k shift x y : ℕ) → IsWordWidth T lanes → width ≤ T → r ≡ row_of lanes i → l ≡ lane_of lanes i → k ≡ r * width / T → shift ≡ r * width % T → shift + width ≤ T
    → x ≡ word (k * lanes + l) → y ≡ bit_and (x / 2 ^ shift) (2 ^ width - 1) → y ≡ unpacked_item T lanes width word i
single_in_one T lanes width word i r l k shift x y shape w r_is l_is k_is shift_is within x_is y_is =
    rw (y_is, x_is, k_is, shift_is, r_is, l_is) (item_of_one T lanes width word (row_of lanes i) (lane_of lanes i) shape w (rw (shift_is, r_is) at within) ∙ item_at T lanes width word i)

pub single_in_two : (T lanes width : ℕ) (word : ℕ → ℕ) (i r l k shift x z y : ℕ) → IsWordWidth T lanes → width ≤ T → r ≡ row_of lanes i → l ≡ lane_of lanes i → k ≡ r * width / T → shift ≡ r * width % T → T < shift + width
    → x < 2 ^ T → x ≡ word (k * lanes + l) → z ≡ word ((k + 1) * lanes + l) → y ≡ bit_and (bit_or (x / 2 ^ shift) (z * 2 ^ (T - shift) % 2 ^ T)) (2 ^ width - 1) → y ≡ unpacked_item T lanes width word i
single_in_two T lanes width word i r l k shift x z y shape w r_is l_is k_is shift_is beyond small x_is z_is y_is =
    rw (y_is, x_is, z_is, k_is, shift_is, r_is, l_is) (item_of_two T lanes width word (row_of lanes i) (lane_of lanes i) shape w (rw (shift_is, r_is) at beyond) (rw (x_is, k_is, r_is, l_is) at small) ∙ item_at T lanes width word i)

-- ---- the words that are read
ends_there : (T lanes at width : ℕ) → IsWordWidth T lanes → 0 < width → at % T + width ≤ T → (at + (width - 1)) / T ≡ at / T
ends_there _ _ at width bits_8 s h = omega arith
ends_there _ _ at width bits_16 s h = omega arith
ends_there _ _ at width bits_32 s h = omega arith
ends_there _ _ at width bits_64 s h = omega arith

pub one_word_read : (T lanes width i r shift : ℕ) → IsWordWidth T lanes → 0 < width → r ≡ row_of lanes i → shift ≡ r * width % T → shift + width ≤ T → words_of_item T width (row_of lanes i) ≡ 1
one_word_read T lanes width i r shift shape some r_is shift_is within =
    let there = ends_there T lanes (row_of lanes i * width) width shape some (rw (shift_is, r_is) at within) in
    omega arith

pub two_words_read : (T lanes width i r shift : ℕ) → IsWordWidth T lanes → width ≤ T → r ≡ row_of lanes i → shift ≡ r * width % T → T < shift + width → words_of_item T width (row_of lanes i) ≡ 2
two_words_read T lanes width i r shift shape w r_is shift_is beyond =
    let there = last_word T lanes (row_of lanes i * width) width shape w (rw (shift_is, r_is) at beyond) in
    omega arith

pub words_at_none : (T lanes width i : ℕ) → width ≡ 0 → words_at T lanes width i ≡ 0
unfolding words_at
words_at_none T lanes width i z = rw z refl

pub words_at_some : (T lanes width i : ℕ) → 0 < width → words_at T lanes width i ≡ words_of_item T width (row_of lanes i)
unfolding words_at
words_at_some T lanes zero i h = absurd (omega arith)
words_at_some T lanes (suc width) i h = rw (eqb-suc-zero width) refl

pub words_of_none : (T lanes width : ℕ) (index : ℕ → ℕ) → words_of_items T lanes width index 0 ≡ 0
unfolding words_of_items
words_of_none T lanes width index = refl

pub words_of_more : (T lanes width : ℕ) (index : ℕ → ℕ) (n : ℕ) → words_of_items T lanes width index (n + 1) ≡ words_of_items T lanes width index n + words_at T lanes width (index n)
unfolding words_of_items
words_of_more T lanes width index n = rw add-one refl

-- a packed block has at most as many words as items
pub block_fits : (T lanes width : ℕ) → IsWordWidth T lanes → width ≤ T → width * lanes ≤ 1024
block_fits _ _ width bits_8 w = omega arith
block_fits _ _ width bits_16 w = omega arith
block_fits _ _ width bits_32 w = omega arith
block_fits _ _ width bits_64 w = omega arith
