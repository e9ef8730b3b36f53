-- Bits in bytes, read and written by words.
use Rattle.std.proofs.Common.{inl, inr, ◌≡◌, ◌≢◌, ℕ, ◌+◌, ◌-◌, ◌*◌, ◌/◌, ◌%◌, ◌^◌, ◌<◌, ◌≤◌, ◌==◌, List, Bool, false, length, set, get_or, arith, ap, ◌∙◌}
use Rattle.std.specs.Int.{bit_at}
use Rattle.std.specs.Prelude.{slice_index}
use Rattle.std.proofs.lemmas.Bool.{cases_lt}
use Rattle.std.proofs.lemmas.List.{get_or-set_same, get_or-set_other, get_or_past}
use Rattle.fastlanes.specs.Layout.{word_at, bits_64}
use Rattle.fastlanes.proofs.ByteBits.{word_bit}
use Rattle.fl_types.specs.Bits.{bit_of_word, bits_from, is_set}
use Rattle.fl_types.proofs.BitLists.{no_bit, same_tables}
use Rattle.fl_types.proofs.MovedBits.{from_shift, low_bit}
use Rattle.fl_column.specs.Bitmaps.{bit_in, bits_in}

-- a bit of word k
pub word_in : (bitmap : List ℕ) (k word j : ℕ) → ((i : ℕ) → slice_index bitmap i < 256) → word ≡ word_at 64 bitmap k → j < 64 → bit_of_word word j ≡ bit_in bitmap (64 * k + j)
unfolding bit_in bit_of_word
word_in bitmap k word j small is h =
    let place : k * 64 + j ≡ 64 * k + j = omega arith in
    ap (λ (n : ℕ). n == 1) (ap (λ (w : ℕ). bit_at w j) is ∙ word_bit 64 16 bitmap k j bits_64 small h)
    ∙ ap (λ (m : ℕ). bit_at (slice_index bitmap (m / 8)) (m % 8) == 1) place

-- bits that were read by words
pub bits_of_words : (words bitmap : List ℕ) (n : ℕ) → ((i : ℕ) → i < n → is_set words i ≡ bit_in bitmap i) → bits_from words 0 n ≡ bits_in bitmap n
unfolding bits_from
bits_of_words words bitmap n each = same_tables (λ i. is_set words (0 + i)) (bit_in bitmap) n (λ i h. let place : 0 + i ≡ i = omega arith in ap (is_set words) place ∙ each i h)

pub in_new_byte : (bitmap : List ℕ) (byte k i : ℕ) → k < length bitmap → i / 8 ≡ k → bit_in (set bitmap k byte) i ≡ bit_of_word byte (i % 8)
unfolding bit_in
in_new_byte bitmap byte k i h e = rw e (ap (λ w. bit_of_word w (i % 8)) (get_or-set_same bitmap k byte 0 h))

pub in_old_byte : (bitmap : List ℕ) (byte k i : ℕ) → i / 8 ≢ k → bit_in (set bitmap k byte) i ≡ bit_in bitmap i
unfolding bit_in
in_old_byte bitmap byte k i e = ap (λ w. bit_of_word w (i % 8)) (get_or-set_other bitmap k (i / 8) byte 0 e)

-- no bit is set behind the last byte
pub no_bit_behind : (bitmap : List ℕ) (i : ℕ) → 8 * length bitmap ≤ i → bit_in bitmap i ≡ false
unfolding bit_in
no_bit_behind bitmap i h = ap (λ w. bit_of_word w (i % 8)) (get_or_past bitmap (i / 8) 0 (omega arith)) ∙ no_bit (i % 8)

-- a bit of a byte of a word
byte_of_word : (word shift j : ℕ) → j < 8 → bit_of_word (word / 2 ^ shift % 256) j ≡ bit_of_word word (shift + j)
unfolding bit_of_word
byte_of_word word shift j h = ap (λ (n : ℕ). n == 1) (low_bit (word / 2 ^ shift) 8 j h ∙ from_shift word shift j)

-- one more byte of a word
pub byte_more : (bitmap : List ℕ) (bits : List Bool) (word whole at : ℕ) → at < length bitmap → 8 * whole ≤ at → at < 8 * whole + 8
    → ((j : ℕ) → j < 64 → bit_of_word word j ≡ get_or bits (64 * whole + j) false) → ((i : ℕ) → i < 8 * at → bit_in bitmap i ≡ get_or bits i false)
    → (i : ℕ) → i < 8 * (at + 1) → bit_in (set bitmap at (word / 2 ^ (8 * (at - 8 * whole)) % 256)) i ≡ get_or bits i false
byte_more bitmap bits word whole at within low high of_word before i h = elim (cases_lt i (8 * at)) [
  | inl old ↦ let other : i / 8 ≢ at = omega arith in in_old_byte bitmap (word / 2 ^ (8 * (at - 8 * whole)) % 256) at i other ∙ before i old
  | inr new ↦
      let here : i / 8 ≡ at = omega arith in
      let place : 64 * whole + (8 * (at - 8 * whole) + i % 8) ≡ i = omega arith in
      in_new_byte bitmap (word / 2 ^ (8 * (at - 8 * whole)) % 256) at i within here ∙ byte_of_word word (8 * (at - 8 * whole)) (i % 8) (omega arith)
      ∙ of_word (8 * (at - 8 * whole) + i % 8) (omega arith) ∙ ap (λ (m : ℕ). get_or bits m false) place
]
