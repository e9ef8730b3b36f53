-- Bits of a word that are added to a list of bits.
use Rattle.std.proofs.Common.{◌≡◌, ◌≢◌, ℕ, zero, suc, ◌+◌, ◌-◌, ◌*◌, ◌/◌, ◌%◌, ◌^◌, ◌<◌, ◌≤◌, ◌==◌, List, [], ◌∷◌, ◌++◌, false, length, get_or, set, ap, sym, ◌∙◌, inl, inr, arith, append_assoc, append-nil}
use Rattle.std.specs.Int.{bit_at}
use Rattle.std.specs.Int.Bits.{bit_or}
use Rattle.std.proofs.lemmas.Bool.{cases_eq, cases_lt}
use Rattle.std.proofs.lemmas.Bool.Decides.{nat_tests}
use Rattle.std.proofs.lemmas.Nat.Bits.{bit_at_or, bit_at-lt}
use Rattle.std.proofs.lemmas.List.FromFn.{map-range_with_len_more}
use Rattle.fl_types.specs.Bits.{bit_of_word, first_bits, is_set, tabulate}
use Rattle.fl_types.proofs.BitLists.{is_set_at, is_set_in, is_set_last, is_set_out, same_tables}
use Rattle.fl_types.proofs.MovedBits.{above_shift, below_shift, from_shift, low_bit}

test_of : (x y : ℕ) → x ≡ y → (x == 1) ≡ (y == 1)
test_of x y e = ap (λ (n : ℕ). n == 1) e

-- the low bits of a word that is joined of two
pub joined_low : (low word at j : ℕ) → at < 64 → j < at → bit_of_word (bit_or low (word * 2 ^ at % 18446744073709551616)) j ≡ bit_of_word low j
unfolding bit_of_word
joined_low low word at j h below =
    let either = bit_at_or low (word * 2 ^ at % 2 ^ 64) j in
    let cut = low_bit (word * 2 ^ at) 64 j (omega arith) in
    let none = below_shift word at j below in
    test_of _ _ (let same : bit_at (bit_or low (word * 2 ^ at % 2 ^ 64)) j ≡ bit_at low j = omega arith in same)

-- and its high ones
pub joined_high : (low word at j : ℕ) → at + j < 64 → (bit_of_word low (at + j) ≡ false) → bit_of_word (bit_or low (word * 2 ^ at % 18446744073709551616)) (at + j) ≡ bit_of_word word j
unfolding bit_of_word
joined_high low word at j h clear =
    let either = bit_at_or low (word * 2 ^ at % 2 ^ 64) (at + j) in
    let cut = low_bit (word * 2 ^ at) 64 (at + j) h in
    let place : at + j - at ≡ j = omega arith in
    let moved : bit_at (word * 2 ^ at) (at + j) ≡ bit_at word j = above_shift word at (at + j) (omega arith) ∙ ap (λ (n : ℕ). bit_at word n) place in
    let off : bit_at low (at + j) ≡ 0 = is_zero (bit_at low (at + j)) (bit_at-lt low (at + j)) clear in
    test_of _ _ (let same : bit_at (bit_or low (word * 2 ^ at % 2 ^ 64)) (at + j) ≡ bit_at word j = omega arith in same)
  where
    is_zero : (x : ℕ) → x < 2 → (x == 1) ≡ false → x ≡ 0
    is_zero x few e = grind (arith, nat_tests)

-- f 0 to f (n + m - 1)
table_append : {A : Type 0} (f : ℕ → A) (n m : ℕ) → tabulate f (n + m) ≡ tabulate f n ++ tabulate (λ j. f (n + j)) m
table_append f n zero = let none : n + zero ≡ n = omega arith in ap (λ (k : ℕ). tabulate f k) none ∙ sym (append-nil (tabulate f n))
table_append f n (suc m) =
    let whole : n + suc m ≡ n + m + 1 = omega arith in
    let part : suc m ≡ m + 1 = omega arith in
    let last = λ (j : ℕ). f (n + j) in
    ap (λ (k : ℕ). tabulate f k) whole ∙ map-range_with_len_more f 0 (n + m) (n + m) (omega arith) ∙ ap (λ xs. xs ++ f (n + m) ∷ []) (table_append f n m)
    ∙ append_assoc (tabulate f n) (tabulate last m) (f (n + m) ∷ []) ∙ ap (λ xs. tabulate f n ++ xs) (sym (map-range_with_len_more last 0 m m (omega arith))) ∙ ap (λ (k : ℕ). tabulate f n ++ tabulate last k) (sym part)

-- a list of bits to which those of a word were added
pub bits_added : (old new : List ℕ) (n word count : ℕ) → ((i : ℕ) → i < n → is_set new i ≡ is_set old i) → ((j : ℕ) → j < count → is_set new (n + j) ≡ bit_of_word word j) → first_bits new (n + count) ≡ first_bits old n ++ tabulate (bit_of_word word) count
unfolding first_bits
bits_added old new n word count before added =
    table_append (is_set new) n count ∙ ap (λ xs. xs ++ tabulate (λ j. is_set new (n + j)) count) (same_tables (is_set new) (is_set old) n before) ∙ ap (λ xs. tabulate (is_set old) n ++ xs) (same_tables (λ j. is_set new (n + j)) (bit_of_word word) count added)

-- the bits of a word that go on in a word of their own
pub bits_in_next : (words : List ℕ) (n word at t : ℕ) → length words ≡ (n + 63) / 64 → at ≡ n % 64 → 0 < at → 64 ≤ at + t → t < 64 → is_set (words ++ word / 2 ^ (64 - at) ∷ []) (n + t) ≡ bit_of_word word t
unfolding bit_of_word
bits_in_next words n word at t long is some over few =
    let place : 64 - at + (n + t - 64 * length words) ≡ t = omega arith in
    is_set_last words (word / 2 ^ (64 - at)) (n + t) (omega arith) (omega arith)
    ∙ test_of _ _ (from_shift word (64 - at) (n + t - 64 * length words) ∙ ap (λ (m : ℕ). bit_at word m) place)

-- the bits before those that are added to the last word
pub kept_before : (old mid : List ℕ) (n at last new : ℕ) → at ≡ n % 64 → n / 64 < length mid → last ≡ get_or mid (n / 64) 0 → ((j : ℕ) → j < at → bit_of_word new j ≡ bit_of_word last j) → ((i : ℕ) → i < n → is_set mid i ≡ is_set old i)
    → (i : ℕ) → i < n → is_set (set mid (n / 64) new) i ≡ is_set old i
kept_before old mid n at last new is within read low same i h = elim (cases_eq (i / 64) (n / 64)) [
  | inl here ↦ is_set_in mid new (n / 64) i within here ∙ low (i % 64) (omega arith) ∙ ap (λ (w : ℕ). bit_of_word w (i % 64)) read ∙ sym (is_set_at mid i (n / 64) here) ∙ same i h
  | inr other ↦ is_set_out mid new (n / 64) i other ∙ same i h
]

-- and those that are added
pub added_behind : (mid : List ℕ) (n at word new t : ℕ) → at ≡ n % 64 → t < 64 → n / 64 < length mid → ((j : ℕ) → at + j < 64 → bit_of_word new (at + j) ≡ bit_of_word word j) → (64 ≤ at + t → is_set mid (n + t) ≡ bit_of_word word t)
    → is_set (set mid (n / 64) new) (n + t) ≡ bit_of_word word t
added_behind mid n at word new t is few within high more = elim (cases_lt (at + t) 64) [
  | inl under ↦
      let here : (n + t) / 64 ≡ n / 64 = omega arith in
      let place : (n + t) % 64 ≡ at + t = omega arith in
      is_set_in mid new (n / 64) (n + t) within here ∙ ap (λ (m : ℕ). bit_of_word new m) place ∙ high t under
  | inr over ↦
      let other : (n + t) / 64 ≢ n / 64 = omega arith in
      is_set_out mid new (n / 64) (n + t) other ∙ more over
]
