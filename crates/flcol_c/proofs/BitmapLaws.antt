-- Bitmaps whose bits are all the same, and the bits that a bitmap has.
use Rattle.std.proofs.Common.{inl, inr, ◌≡◌, ℕ, ◌+◌, ◌-◌, ◌*◌, ◌/◌, ◌%◌, ◌^◌, ◌<◌, ◌≤◌, ◌==◌, List, Bool, true, false, length, set, get_or, arith, ap, ◌∙◌}
use Rattle.std.specs.Prelude.{slice_index}
use Rattle.std.proofs.lemmas.Bool.{cases_eq, cases_lt}
use Rattle.std.proofs.lemmas.List.{get_or_default, same_lists}
use Rattle.std.proofs.lemmas.List.FromFn.{length-map-range_with_len, get_or-map-range_with_len}
use Rattle.std.proofs.lemmas.Nat.{one_shl}
use Rattle.std.proofs.lemmas.Nat.Bits.{bit_at_ones, bit_at_ones_above}
use Rattle.fl_types.specs.Bits.{bit_of_word}
use Rattle.fl_types.proofs.BitLists.{no_bit}
use Rattle.fl_column.specs.Bitmaps.{bit_in, bits_in}
use Rattle.fl_column.proofs.BitmapLaws.{in_new_byte, in_old_byte, no_bit_behind}

-- the bits of bytes that all are 0, or all 255
pub none_set : (bitmap : List ℕ) (i : ℕ) → ((k : ℕ) → k < length bitmap → slice_index bitmap k ≡ 0) → bit_in bitmap i ≡ false
unfolding bit_in
none_set bitmap i each = elim (cases_lt i (8 * length bitmap)) [
  | inl low ↦ ap (λ w. bit_of_word w (i % 8)) (each (i / 8) (omega arith)) ∙ no_bit (i % 8)
  | inr high ↦ no_bit_behind bitmap i high
]

low_one : (count j : ℕ) → count ≤ 8 → j < count → bit_of_word (2 ^ count - 1) j ≡ true
unfolding bit_of_word
low_one count j few h = ap (λ (n : ℕ). n == 1) (bit_at_ones count j h)

high_zero : (count j : ℕ) → count ≤ j → bit_of_word (2 ^ count - 1) j ≡ false
unfolding bit_of_word
high_zero count j h = ap (λ (n : ℕ). n == 1) (bit_at_ones_above count j h)

pub all_set : (bitmap : List ℕ) (i : ℕ) → ((k : ℕ) → k < length bitmap → slice_index bitmap k ≡ 255) → i < 8 * length bitmap → bit_in bitmap i ≡ true
unfolding bit_in
all_set bitmap i each h = ap (λ w. bit_of_word w (i % 8)) (each (i / 8) (omega arith)) ∙ low_one 8 (i % 8) (omega arith) (omega arith)

-- the last byte, of which only the lowest bits are set
pub run_set : (bitmap : List ℕ) (len i : ℕ) → length bitmap ≡ (len + 7) / 8 → ((k : ℕ) → k < length bitmap → slice_index bitmap k ≡ 255) → 0 < len % 8 → i < len → bit_in (set bitmap (len / 8) (1 * 2 ^ (len % 8) % 256 - 1)) i ≡ true
run_set bitmap len i long each some h = elim (cases_eq (i / 8) (len / 8)) [
  | inl here ↦ in_new_byte bitmap (1 * 2 ^ (len % 8) % 256 - 1) (len / 8) i (omega arith) here ∙ ap (λ (m : ℕ). bit_of_word (m - 1) (i % 8)) (one_shl (len % 8) 8 (omega arith)) ∙ low_one (len % 8) (i % 8) (omega arith) (omega arith)
  | inr other ↦ in_old_byte bitmap (1 * 2 ^ (len % 8) % 256 - 1) (len / 8) i other ∙ all_set bitmap i each (omega arith)
]

pub run_clear : (bitmap : List ℕ) (len i : ℕ) → length bitmap ≡ (len + 7) / 8 → 0 < len % 8 → len ≤ i → bit_in (set bitmap (len / 8) (1 * 2 ^ (len % 8) % 256 - 1)) i ≡ false
run_clear bitmap len i long some h = elim (cases_eq (i / 8) (len / 8)) [
  | inl here ↦ in_new_byte bitmap (1 * 2 ^ (len % 8) % 256 - 1) (len / 8) i (omega arith) here ∙ ap (λ (m : ℕ). bit_of_word (m - 1) (i % 8)) (one_shl (len % 8) 8 (omega arith)) ∙ high_zero (len % 8) (i % 8) (omega arith)
  | inr other ↦ in_old_byte bitmap (1 * 2 ^ (len % 8) % 256 - 1) (len / 8) i other ∙ no_bit_behind bitmap i (omega arith)
]

-- the bits of a bitmap that has those of a list
pub bits_read : (bitmap : List ℕ) (bits : List Bool) → ((i : ℕ) → i < length bits → bit_in bitmap i ≡ get_or bits i false) → bits_in bitmap (length bits) ≡ bits
bits_read bitmap bits same =
    let n = length bits in
    let long : length (bits_in bitmap n) ≡ n = length-map-range_with_len (bit_in bitmap) 0 n in
    same_lists (bits_in bitmap n) bits long (λ i d h.
    let within : i < n = omega (arith, long) in
    get_or-map-range_with_len (bit_in bitmap) 0 n i i d within (omega arith) ∙ (same i within ∙ get_or_default bits i false d within))
