-- Bytes that make the same words.
use Rattle.std.proofs.Common.{◌≡◌, ℕ, ◌+◌, ◌*◌, ◌/◌, ◌%◌, ◌<◌, ◌∙◌, ap, sym, arith, refl, List, length, get_or}
use Rattle.std.specs.Int.{bit_at}
use Rattle.std.proofs.lemmas.Grind.{same_number_lists}
use Rattle.std.proofs.lemmas.Nat.{div-add-mod'}
use Rattle.std.proofs.lemmas.Nat.Bits.{same_from_bits_below}
use Rattle.fastlanes.specs.Layout.{word_at, IsWordWidth, bits_8, bits_16, bits_32, bits_64}
use Rattle.fastlanes.proofs.ByteBits.{word_bit}

-- the word that has bit b of byte i is one of the words
word_inside : (T lanes count i b : ℕ) → IsWordWidth T lanes → i < count * (T / 8) → b < 8 → (8 * i + b) / T < count
word_inside _ _ count i b bits_8 h few = omega arith
word_inside _ _ count i b bits_16 h few = omega arith
word_inside _ _ count i b bits_32 h few = omega arith
word_inside _ _ count i b bits_64 h few = omega arith

bit_inside : (T lanes s : ℕ) → IsWordWidth T lanes → s % T < T
bit_inside _ _ s bits_8 = omega arith
bit_inside _ _ s bits_16 = omega arith
bit_inside _ _ s bits_32 = omega arith
bit_inside _ _ s bits_64 = omega arith

-- bit b of byte i as a bit of a word
byte_bit : (T lanes : ℕ) (bytes : List ℕ) (i b : ℕ) → IsWordWidth T lanes → ((i : ℕ) → get_or bytes i 0 < 256) → b < 8
    → bit_at (word_at T bytes ((8 * i + b) / T)) ((8 * i + b) % T) ≡ bit_at (get_or bytes i 0) b
byte_bit T lanes bytes i b shape small few =
    let whole : (8 * i + b) / T * T + (8 * i + b) % T ≡ 8 * i + b = div-add-mod' (8 * i + b) T in
    let here : (8 * i + b) / 8 ≡ i = omega arith in
    let there : (8 * i + b) % 8 ≡ b = omega arith in
    word_bit T lanes bytes ((8 * i + b) / T) ((8 * i + b) % T) shape small (bit_inside T lanes (8 * i + b) shape) ∙ rw (whole, here, there) refl

-- the bytes of the same words are the same
pub same_bytes : (T lanes : ℕ) (bytes others : List ℕ) (count : ℕ) → IsWordWidth T lanes → length bytes ≡ count * (T / 8) → length others ≡ count * (T / 8)
    → ((i : ℕ) → get_or bytes i 0 < 256) → ((i : ℕ) → get_or others i 0 < 256) → ((m : ℕ) → m < count → word_at T bytes m ≡ word_at T others m) → bytes ≡ others
same_bytes T lanes bytes others count shape size size' small small' same =
    same_number_lists bytes others (size ∙ sym size') (λ i h. same_from_bits_below 8 (get_or bytes i 0) (get_or others i 0) (small i) (small' i) (λ b few.
    let inside : (8 * i + b) / T < count = word_inside T lanes count i b shape (rw (← size) h) few in
    sym (byte_bit T lanes bytes i b shape small few)
    ∙ (ap (λ (w : ℕ). bit_at w ((8 * i + b) % T)) (same ((8 * i + b) / T) inside) ∙ byte_bit T lanes others i b shape small' few)))
