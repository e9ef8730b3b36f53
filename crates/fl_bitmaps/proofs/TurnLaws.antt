-- Bitmaps that are turned, or cleared from a bit on.
use Rattle.std.proofs.Common.{inl, inr, ◌≡◌, ◌≢◌, ℕ, ◌+◌, ◌-◌, ◌*◌, ◌/◌, ◌%◌, ◌^◌, ◌<◌, ◌≤◌, ◌==◌, List, Bool, true, false, not, Some, None, length, get_or, set, map, cond, bit_and, refl, ap, sym, ◌∙◌, arith}
use Rattle.std.proofs.lemmas.Bool.{cases_eq, cases_lt}
use Rattle.std.specs.Int.{bit_at}
use Rattle.std.specs.List.{range_with_len}
use Rattle.std.proofs.Math.Nat.{mod-lt}
use Rattle.std.proofs.lemmas.Simd.{map-map}
use Rattle.std.proofs.lemmas.Nat.{and_mask, one_shl, pow_pos}
use Rattle.std.proofs.lemmas.Nat.Bits.{bit_at_above}
use Rattle.fl_types.specs.Bits.{bit_of_word}
use Rattle.fl_types.proofs.BitLists.{same_tables}
use Rattle.fl_types.proofs.MovedBits.{low_bit}
use Rattle.fl_column.specs.Bitmaps.{bit_in}
use Rattle.fl_column.proofs.BitmapLaws.{in_new_byte, in_old_byte, no_bit_behind}
use Rattle.fl_bitmaps.specs.Answers.{answers_in, not_of}
use Rattle.fl_bitmaps.specs.Operators.{known_at}
use Rattle.fl_bitmaps.proofs.AnswerLaws.{answer_at, answers_table}

-- one more byte is turned
pub turned_more : (first bits : List ℕ) (k byte : ℕ) → k < length bits → ((j : ℕ) → j < 8 → bit_of_word byte j ≡ not (bit_of_word (get_or bits k 0) j)) → ((i : ℕ) → 8 * k ≤ i → bit_in bits i ≡ bit_in first i)
    → ((i : ℕ) → i < 8 * k → bit_in bits i ≡ not (bit_in first i)) → (i : ℕ) → i < 8 * (k + 1) → bit_in (set bits k byte) i ≡ not (bit_in first i)
unfolding bit_in
turned_more first bits k byte within turned before each i h = elim (cases_lt i (8 * k)) [
  | inl below ↦ let other : i / 8 ≢ k = omega arith in in_old_byte bits byte k i other ∙ each i below
  | inr above ↦
      let here : i / 8 ≡ k = omega arith in
      in_new_byte bits byte k i within here ∙ turned (i % 8) (omega arith) ∙ ap (λ (m : ℕ). not (bit_of_word (get_or bits m 0) (i % 8))) (sym here) ∙ ap not (before i above)
]

-- and the others are as they were
pub unturned_more : (first bits : List ℕ) (k byte : ℕ) → ((i : ℕ) → 8 * k ≤ i → bit_in bits i ≡ bit_in first i) → (i : ℕ) → 8 * (k + 1) ≤ i → bit_in (set bits k byte) i ≡ bit_in first i
unturned_more first bits k byte before i h = let other : i / 8 ≢ k = omega arith in in_old_byte bits byte k i other ∙ before i (omega arith)

-- a byte of which the lowest bits are kept
mask_low : (byte count : ℕ) → count < 8 → bit_and byte (1 * 2 ^ count % 256 - 1) ≡ byte % 2 ^ count
mask_low byte count h = ap (λ (m : ℕ). bit_and byte (m - 1)) (one_shl count 8 h) ∙ and_mask byte count

low_stay : (byte count j : ℕ) → count < 8 → j < count → bit_of_word (bit_and byte (1 * 2 ^ count % 256 - 1)) j ≡ bit_of_word byte j
unfolding bit_of_word
low_stay byte count j few h = ap (λ (n : ℕ). n == 1) (ap (λ (n : ℕ). bit_at n j) (mask_low byte count few) ∙ low_bit byte count j h)

high_go : (byte count j : ℕ) → count < 8 → count ≤ j → bit_of_word (bit_and byte (1 * 2 ^ count % 256 - 1)) j ≡ false
unfolding bit_of_word
high_go byte count j few h = ap (λ (n : ℕ). n == 1) (ap (λ (n : ℕ). bit_at n j) (mask_low byte count few) ∙ bit_at_above (byte % 2 ^ count) count j (mod-lt byte (pow_pos count)) h)

pub kept_below : (bits : List ℕ) (len i : ℕ) → length bits ≡ (len + 7) / 8 → 0 < len % 8 → i < len → bit_in (set bits (len / 8) (bit_and (get_or bits (len / 8) 0) (1 * 2 ^ (len % 8) % 256 - 1))) i ≡ bit_in bits i
unfolding bit_in
kept_below bits len i long some h = elim (cases_eq (i / 8) (len / 8)) [
  | inl here ↦ in_new_byte bits (bit_and (get_or bits (len / 8) 0) (1 * 2 ^ (len % 8) % 256 - 1)) (len / 8) i (omega arith) here ∙ low_stay (get_or bits (len / 8) 0) (len % 8) (i % 8) (omega arith) (omega arith)
      ∙ ap (λ (m : ℕ). bit_of_word (get_or bits m 0) (i % 8)) (sym here)
  | inr other ↦ in_old_byte bits (bit_and (get_or bits (len / 8) 0) (1 * 2 ^ (len % 8) % 256 - 1)) (len / 8) i other
]

pub clear_above : (bits : List ℕ) (len i : ℕ) → length bits ≡ (len + 7) / 8 → 0 < len % 8 → len ≤ i → bit_in (set bits (len / 8) (bit_and (get_or bits (len / 8) 0) (1 * 2 ^ (len % 8) % 256 - 1))) i ≡ false
clear_above bits len i long some h = elim (cases_eq (i / 8) (len / 8)) [
  | inl here ↦ in_new_byte bits (bit_and (get_or bits (len / 8) 0) (1 * 2 ^ (len % 8) % 256 - 1)) (len / 8) i (omega arith) here ∙ high_go (get_or bits (len / 8) 0) (len % 8) (i % 8) (omega arith) (omega arith)
  | inr other ↦ in_old_byte bits (bit_and (get_or bits (len / 8) 0) (1 * 2 ^ (len % 8) % 256 - 1)) (len / 8) i other ∙ no_bit_behind bits i (omega arith)
]

turned_bit : (known bit : Bool) → cond known (Some (not bit)) None ≡ not_of (cond known (Some bit) None)
turned_bit true bit = refl
turned_bit false bit = refl

-- bits that are turned are the other answers
pub answers_turned : (bits turned validity : List ℕ) (n : ℕ) → ((i : ℕ) → i < n → bit_in turned i ≡ not (bit_in bits i)) → answers_in n turned validity ≡ map not_of (answers_in n bits validity)
unfolding bit_in
answers_turned bits turned validity n each =
    answers_table n turned validity
    ∙ same_tables (answer_at turned validity) (λ i. not_of (answer_at bits validity i)) n (λ i h.
    let known = bit_of_word (known_at validity (i / 8)) (i % 8) in
    ap (λ (b : Bool). cond known (Some b) None) (each i h) ∙ turned_bit known (bit_of_word (get_or bits (i / 8) 0) (i % 8)))
    ∙ sym (map-map not_of (answer_at bits validity) (range_with_len 0 n)) ∙ ap (map not_of) (sym (answers_table n bits validity))
