-- Words of bits: their lowest bits, how many are set, and lists of them that are equal.
use Rattle.std.proofs.Common.{◌≡◌, ◌≢◌, ℕ, zero, suc, ◌+◌, ◌-◌, ◌*◌, ◌/◌, ◌%◌, ◌^◌, ◌<◌, ◌≤◌, ◌==◌, List, Bool, true, false, cond, length, get_or, take, count_ones, bit_and, refl, ap, sym, ◌∙◌, inl, inr, arith}
use Rattle.std.specs.Int.{bit_at}
use Rattle.std.specs.Bool.{beq}
use Rattle.std.specs.Cmp.{booleans_Decides}
use Rattle.std.specs.Cmp.Lexicographic.{pointwise, pointwise_decides}
use Rattle.std.proofs.Math.ListN.{get_or-eq_default}
use Rattle.std.proofs.Math.Nat.{mod-lt}
use Rattle.std.proofs.lemmas.Bool.{cases_lt, eqb-true}
use Rattle.std.proofs.lemmas.Bool.Decides.{nat_tests}
use Rattle.std.proofs.lemmas.Nat.{and_mask, one_shl, ones-le, pow_pos}
use Rattle.std.proofs.lemmas.Nat.Bits.{bit_at_above, bit_at-lt, same_from_bits, same_from_bits_below}
use Rattle.std.proofs.lemmas.List.{get_or-take, get_or_default, length-take, map-id, same_lists}
use Rattle.std.proofs.lemmas.List.FromFn.{length-map-range_with_len, get_or-map-range_with_len, sum_by-map-range_with_len_more}
use Rattle.std.proofs.lemmas.Simd.{bit_mask_l, ones-mask_l}
use Rattle.std.specs.Simd.Lanes.{mask_l}
use Rattle.fl_types.specs.Bits.{between, bit_of_word, first_bits, is_set, tabulate, true_count}
use Rattle.fl_types.proofs.BitLists.{is_set_at, same_tables, table_between}
use Rattle.fl_types.proofs.MovedBits.{low_bit}

mask_low : (word count : ℕ) → count < 64 → bit_and word (1 * 2 ^ count % 18446744073709551616 - 1) ≡ word % 2 ^ count
mask_low word count h = ap (λ (m : ℕ). bit_and word (m - 1)) (one_shl count 64 h) ∙ and_mask word count

-- the lowest bits of a word stay
pub low_kept : (word count j : ℕ) → count < 64 → j < count → bit_of_word (bit_and word (1 * 2 ^ count % 18446744073709551616 - 1)) j ≡ bit_of_word word j
unfolding bit_of_word
low_kept word count j h k = ap (λ (n : ℕ). n == 1) (ap (λ (n : ℕ). bit_at n j) (mask_low word count h) ∙ low_bit word count j k)

-- and the others are not set
pub high_cleared : (word count j : ℕ) → count < 64 → count ≤ j → bit_of_word (bit_and word (1 * 2 ^ count % 18446744073709551616 - 1)) j ≡ false
unfolding bit_of_word
high_cleared word count j h k = ap (λ (n : ℕ). n == 1) (ap (λ (n : ℕ). bit_at n j) (mask_low word count h) ∙ bit_at_above (word % 2 ^ count) count j (mod-lt word (pow_pos count)) k)

pub none_above : (word j : ℕ) → word < 2 ^ 64 → 64 ≤ j → bit_of_word word j ≡ false
unfolding bit_of_word
none_above word j h k = ap (λ (n : ℕ). n == 1) (bit_at_above word 64 j h k)

from_test : (x : ℕ) (b : Bool) → x < 2 → (x == 1) ≡ b → x ≡ cond b 1 0
from_test x true h e = eqb-true x 1 e
from_test x false h e = grind (arith, nat_tests)

-- a word is the mask of its bits
word_is : (f : ℕ → Bool) (n word : ℕ) → ((j : ℕ) → j < n → bit_of_word word j ≡ f j) → ((j : ℕ) → n ≤ j → bit_of_word word j ≡ false) → word ≡ mask_l (tabulate f n)
unfolding bit_of_word
word_is f n word low clear = same_from_bits word (mask_l (tabulate f n)) (λ j.
    from_test (bit_at word j) (get_or (tabulate f n) j false) (bit_at-lt word j) (elim (cases_lt j n) [
      | inl below ↦ low j below ∙ sym (get_or-map-range_with_len f 0 n j j false below (omega arith))
      | inr above ↦ clear j above ∙ sym (get_or-eq_default (tabulate f n) false (omega (arith, length-map-range_with_len f 0 n)))
    ])
    ∙ sym (bit_mask_l (tabulate f n) j))

-- how many bits of a word are set that has n
pub ones_of_bits : (f : ℕ → Bool) (n word : ℕ) → ((j : ℕ) → j < n → bit_of_word word j ≡ f j) → ((j : ℕ) → n ≤ j → bit_of_word word j ≡ false) → count_ones word ≡ true_count (tabulate f n)
ones_of_bits f n word low clear =
    let bits = tabulate f n in
    ap (λ (m : ℕ). count_ones m) (word_is f n word low clear ∙ ap mask_l (sym (map-id bits))) ∙ ones-mask_l (λ (b : Bool). b) bits

-- how many of n + m are true
pub count_more : (f : ℕ → Bool) (n m : ℕ) → true_count (tabulate f (n + m)) ≡ true_count (tabulate f n) + true_count (tabulate (λ j. f (n + j)) m)
count_more f n zero = let none : n + zero ≡ n = omega arith in rw none (omega arith)
count_more f n (suc m) =
    let whole : n + suc m ≡ n + m + 1 = omega arith in
    let part : suc m ≡ m + 1 = omega arith in
    let before = count_more f n m in
    let more = sum_by-map-range_with_len_more (λ b. cond b 1 0) f 0 (n + m) (n + m) (omega arith) in
    let last = sum_by-map-range_with_len_more (λ b. cond b 1 0) (λ j. f (n + j)) 0 m m (omega arith) in
    let joined : true_count (tabulate f (n + m + 1)) ≡ true_count (tabulate f n) + true_count (tabulate (λ j. f (n + j)) (m + 1)) = omega arith in
    ap (λ (k : ℕ). true_count (tabulate f k)) whole ∙ joined ∙ ap (λ (k : ℕ). true_count (tabulate f n) + true_count (tabulate (λ j. f (n + j)) k)) (sym part)

-- one more word is counted
pub counted_more : (words : List ℕ) (i word count : ℕ) → word ≡ get_or words i 0 → word < 2 ^ 64 → count ≡ true_count (first_bits words (64 * i)) → count + count_ones word ≡ true_count (first_bits words (64 * (i + 1)))
unfolding first_bits
counted_more words i word count is small before =
    let end : 64 * (i + 1) ≡ 64 * i + 64 = omega arith in
    let ones = ones_of_bits (λ j. is_set words (64 * i + j)) 64 word (λ j h.
    let at : (64 * i + j) % 64 ≡ j = omega arith in
    sym (is_set_at words (64 * i + j) i (omega arith) ∙ rw (at, sym is) refl)) (λ j h. none_above word j small h) in
    let more = count_more (is_set words) (64 * i) 64 in
    rw end (omega arith)

pub few_ones : (word : ℕ) → word < 2 ^ 64 → count_ones word ≤ 64
few_ones word small = ones-le 64 word small

-- the bits of word k, below n, are those of the list from bit 64 * k on
pub low_of_bits : (words : List ℕ) (n k word low : ℕ) → word ≡ get_or words k 0 → ((j : ℕ) → j < n - 64 * k → bit_of_word low j ≡ bit_of_word word j) → ((j : ℕ) → n - 64 * k ≤ j → bit_of_word low j ≡ false)
    → (j : ℕ) → j < 64 → bit_of_word low j ≡ get_or (first_bits words n) (64 * k + j) false
unfolding first_bits
low_of_bits words n k word low is here clear j h = elim (cases_lt j (n - 64 * k)) [
  | inl below ↦
      let at : (64 * k + j) % 64 ≡ j = omega arith in
      let bit : bit_of_word word j ≡ is_set words (64 * k + j) = sym (is_set_at words (64 * k + j) k (omega arith) ∙ rw (at, sym is) refl) in
      here j below ∙ bit ∙ sym (get_or-map-range_with_len (is_set words) 0 n (64 * k + j) (64 * k + j) false (omega arith) (omega arith))
  | inr above ↦ clear j above ∙ sym (get_or-eq_default (first_bits words n) false (omega (arith, length-map-range_with_len (is_set words) 0 n)))
]

-- the last word, of which only the lowest bits count, completes the number
pub counted_rest : (words : List ℕ) (n full word low ones : ℕ) → full ≡ n / 64 → word ≡ get_or words full 0 → ((j : ℕ) → j < n % 64 → bit_of_word low j ≡ bit_of_word word j) → ((j : ℕ) → n % 64 ≤ j → bit_of_word low j ≡ false)
    → ones ≡ true_count (first_bits words (64 * full)) → ones + count_ones low ≡ true_count (first_bits words n)
unfolding first_bits
counted_rest words n full word low ones at is here clear before =
    let end : 64 * full + n % 64 ≡ n = omega arith in
    let last = ones_of_bits (λ j. is_set words (64 * full + j)) (n % 64) low (λ j h.
    let rest : (64 * full + j) % 64 ≡ j = omega arith in
    here j h ∙ sym (is_set_at words (64 * full + j) full (omega arith) ∙ rw (rest, sym is) refl)) clear in
    let more = count_more (is_set words) (64 * full) (n % 64) in
    let sum : ones + count_ones low ≡ true_count (tabulate (is_set words) (64 * full + n % 64)) = omega arith in
    sum ∙ ap (λ (m : ℕ). true_count (tabulate (is_set words) m)) end

-- the first words have the first bits
pub front_count : (words : List ℕ) (full n : ℕ) → full ≤ length words → n ≡ 64 * full → true_count (first_bits (take full words) (64 * length (take full words))) ≡ true_count (first_bits words n)
unfolding first_bits is_set
front_count words full n within is =
    let size : 64 * length (take full words) ≡ n = omega (arith, length-take full words) in
    ap (λ (m : ℕ). true_count (tabulate (is_set (take full words)) m)) size
    ∙ ap true_count (same_tables (is_set (take full words)) (is_set words) n (λ i h. ap (λ (w : ℕ). bit_of_word w (i % 64)) (get_or-take full words (i / 64) 0 (omega arith))))

-- words whose bits are those of others from `start` on hold a part of their list
pub part_of_bits : (old new : List ℕ) (n start end : ℕ) → start ≤ end → end ≤ n → ((i : ℕ) → i < end - start → is_set new i ≡ is_set old (start + i)) → between start end (first_bits old n) ≡ first_bits new (end - start)
unfolding first_bits
part_of_bits old new n start end order range each =
    let bits = first_bits old n in
    sym (table_between bits start end false order (omega (arith, length-map-range_with_len (is_set old) 0 n)))
    ∙ same_tables (λ i. get_or bits (start + i) false) (is_set new) (end - start) (λ i h. get_or-map-range_with_len (is_set old) 0 n (start + i) (start + i) false (omega arith) (omega arith) ∙ sym (each i h))

-- two words are equal where their bits are
pub same_words : (a b : ℕ) → a < 2 ^ 64 → b < 2 ^ 64 → ((j : ℕ) → j < 64 → bit_of_word a j ≡ bit_of_word b j) → a ≡ b
unfolding bit_of_word
same_words a b small few same = same_from_bits_below 64 a b small few (λ j h. same_bit (bit_at a j) (bit_at b j) (bit_at-lt a j) (bit_at-lt b j) (same j h))
  where
    same_bit : (x y : ℕ) → x < 2 → y < 2 → (x == 1) ≡ (y == 1) → x ≡ y
    same_bit x y h k e = from_test x (y == 1) h e ∙ sym (from_test y (y == 1) k refl)

-- the bits of two lists of which a word differs
pub unequal_word : (xs ys : List Bool) (k a b : ℕ) → a < 2 ^ 64 → b < 2 ^ 64 → ((j : ℕ) → j < 64 → bit_of_word a j ≡ get_or xs (64 * k + j) false) → ((j : ℕ) → j < 64 → bit_of_word b j ≡ get_or ys (64 * k + j) false) → a ≢ b
    → pointwise beq xs ys ≡ false
unequal_word xs ys k a b small few left right differ = not_true (pointwise beq xs ys) (λ e.
    let same = (pointwise_decides booleans_Decides xs ys).0 e in
    differ (same_words a b small few (λ j h. left j h ∙ ap (λ (l : List Bool). get_or l (64 * k + j) false) same ∙ sym (right j h))))
  where
    not_true : (r : Bool) → (r ≡ true → ⊥) → r ≡ false
    not_true true h = absurd (h refl)
    not_true false h = refl

-- one more word is equal
pub equal_word : (xs ys : List Bool) (k a b : ℕ) → ((j : ℕ) → j < 64 → bit_of_word a j ≡ get_or xs (64 * k + j) false) → ((j : ℕ) → j < 64 → bit_of_word b j ≡ get_or ys (64 * k + j) false) → a ≡ b
    → ((i : ℕ) → i < 64 * k → get_or xs i false ≡ get_or ys i false) → (i : ℕ) → i < 64 * (k + 1) → get_or xs i false ≡ get_or ys i false
equal_word xs ys k a b left right same before i h = elim (cases_lt i (64 * k)) [
  | inl below ↦ before i below
  | inr above ↦
      let place : 64 * k + (i - 64 * k) ≡ i = omega arith in
      ap (λ (m : ℕ). get_or xs m false) (sym place) ∙ sym (left (i - 64 * k) (omega arith)) ∙ ap (λ (w : ℕ). bit_of_word w (i - 64 * k)) same ∙ right (i - 64 * k) (omega arith) ∙ ap (λ (m : ℕ). get_or ys m false) place
]

-- lists whose bits are equal
pub equal_bits : (xs ys : List Bool) (n : ℕ) → length xs ≡ length ys → length xs ≤ n → ((i : ℕ) → i < n → get_or xs i false ≡ get_or ys i false) → pointwise beq xs ys ≡ true
equal_bits xs ys n long most same = (pointwise_decides booleans_Decides xs ys).1 (same_lists xs ys long (λ k d h.
    get_or_default xs k d false h ∙ same k (omega arith) ∙ get_or_default ys k false d (omega arith)))
