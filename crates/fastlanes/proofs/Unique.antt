-- The items' low bits and the words of a block determine each other.
use Rattle.std.proofs.Common.{◌≡◌, ℕ, ◌+◌, ◌*◌, ◌/◌, ◌%◌, ◌^◌, ◌<◌, arith, ◌∙◌, sym, ap}
use Rattle.std.proofs.lemmas.Nat.{div_below, mul-add-lt, div-mul-add, mod-mul-add, div-add-mod', mod_below}
use Rattle.std.proofs.lemmas.Nat.Bits.{same_from_bits_below}
use Rattle.std.specs.Int.{bit_at}
use Rattle.fastlanes.specs.Layout.{place, row_of, lane_of, Packed, IsWordWidth, packed_bit, unpacked_bits, unpacked_item}
use Rattle.fastlanes.proofs.BitSums.{bit_at_from_bits}
use Rattle.fastlanes.proofs.Blocks.{above_zero, packed_bit_small, bit_at_low, item_from_packed}
use Rattle.fastlanes.proofs.Bijection.{place_read, position_placed}

pub items_packed : (T lanes width : ℕ) (word : ℕ → ℕ) → IsWordWidth T lanes → Packed T lanes width (unpacked_item T lanes width word) word
unfolding unpacked_item unpacked_bits
items_packed T lanes width word shape = record {
  bits = λ r l b p q h.
      let there = place_read T lanes r l shape p q in
      rw (there.0, there.1) (bit_at_from_bits (λ b. packed_bit T lanes word l (r * width + b)) (λ b. packed_bit_small T lanes word l (r * width + b)) width b h);
}

-- items of the same low bits have the same bits below the width
same_low_bits : (width : ℕ) (item same : ℕ → ℕ) (i b : ℕ) → b < width → item i % 2 ^ width ≡ same i % 2 ^ width → bit_at (item i) b ≡ bit_at (same i) b
same_low_bits width item same i b h e =
    sym (bit_at_low (item i) width b h) ∙ (ap (λ (n : ℕ). bit_at n b) e ∙ bit_at_low (same i) width b h)

-- bit t of word k of lane l is a bit of an item
pub same_words : (T lanes width : ℕ) (item same word other : ℕ → ℕ) → IsWordWidth T lanes
    → ((i : ℕ) → i < 1024 → item i % 2 ^ width ≡ same i % 2 ^ width)
    → Packed T lanes width item word → Packed T lanes width same other → ((m : ℕ) → m < width * lanes → (word m < 2 ^ T) × (other m < 2 ^ T))
    → (m : ℕ) → m < width * lanes → word m ≡ other m
unfolding packed_bit
same_words T lanes width item same word other shape low one two fits m h =
    let positive = above_zero T lanes shape in
    let k_below : m / lanes < width = div_below m lanes width positive.1 h in
    let l_below : m % lanes < lanes = mod_below m lanes positive.1 in
    same_from_bits_below T (word m) (other m) (fits m h).0 (fits m h).1 (λ t t_below.
    let width_positive : 0 < width = omega arith in
    let s_below : m / lanes * T + t < T * width = mul-add-lt (m / lanes) T t width k_below t_below in
    let r_below : (m / lanes * T + t) / width < T = div_below (m / lanes * T + t) width T width_positive s_below in
    let b_below : (m / lanes * T + t) % width < width = mod_below (m / lanes * T + t) width width_positive in
    let there = place_read T lanes ((m / lanes * T + t) / width) (m % lanes) shape r_below l_below in
    let e = one.bits ((m / lanes * T + t) / width) (m % lanes) ((m / lanes * T + t) % width) r_below l_below b_below in
    let f = two.bits ((m / lanes * T + t) / width) (m % lanes) ((m / lanes * T + t) % width) r_below l_below b_below in
    let j = same_low_bits width item same (place ((m / lanes * T + t) / width) (m % lanes)) ((m / lanes * T + t) % width) b_below (low _ there.2) in
    let g = sym e ∙ (j ∙ f) in
    rw (div-add-mod' (m / lanes * T + t) width, div-mul-add (m / lanes) T t t_below, mod-mul-add (m / lanes) T t t_below, div-add-mod' m lanes) at g)

-- the words give back the low bits of the items
pub items_read : (T lanes width : ℕ) (item word : ℕ → ℕ) → IsWordWidth T lanes → Packed T lanes width item word
    → (i : ℕ) → i < 1024 → item i % 2 ^ width ≡ unpacked_item T lanes width word i
unfolding unpacked_item
items_read T lanes width item word shape packed i h =
    let placed = position_placed T lanes i shape h in
    let e = item_from_packed T lanes width item word (row_of lanes i) (lane_of lanes i) placed.1 placed.2 packed in
    let f = ap (λ (p : ℕ). item p % 2 ^ width) placed.0 in
    sym (e ∙ f)
