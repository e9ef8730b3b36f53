-- How many marked items pass a test, a word of marks at a time.
use Rattle.std.proofs.Common.{◌≡◌, ◌⊎◌, ◌==◌, ◌&&◌, ℕ, ℤ, pos, ◌+◌, ◌-◌, ◌*◌, ◌/◌, ◌%◌, ◌^◌, ◌<◌, ◌≤◌, List, length, map, get_or, take, drop, min, Bool, true, false, cond, count_ones, refl, ap, sym, ◌∙◌, arith, inl, inr, bit_and}
use Rattle.std.proofs.lemmas.List.{get_or-drop, get_or-take, length-drop, length-take}
use Rattle.std.proofs.lemmas.List.FromFn.{length-map-range_with_len, sum_by-map-range_with_len_more}
use Rattle.std.proofs.lemmas.List.Sums.{count_by-le-length}
use Rattle.std.proofs.lemmas.Nat.Bits.{bit_at_ones}
use Rattle.fastlanes.specs.Compared.{has_bit, is_bit_set}
use Rattle.fl_types.specs.declared.validity.Validity.{Validity}
use Rattle.fl_types.specs.declared.validity.Validity.TheVariants as valid
use Rattle.fl_types.specs.Bits.{bit_of_word, is_set, tabulate, true_count}
use Rattle.fl_types.specs.Validities.{is_valid_at}
use Rattle.fl_types.proofs.BitLists.{is_set_at, same_tables}
use Rattle.fl_types.proofs.KeptLaws.{bit_true}
use Rattle.fl_types.proofs.MovedBits.{from_shift}
use Rattle.fl_types.proofs.WordBits.{count_more, none_above, ones_of_bits}
use Rattle.fl_scan.specs.Counts.{Reaches, answered_from, both, count_below, marked_from, passed_in}
use Rattle.fl_scan.proofs.MarkLaws.{of_and}
use Rattle.fl_scan.proofs.MaskLaws.{part_of}
use Rattle.fl_scan.proofs.StepLaws.{mapped_item}

-- ---- counts
pub one_below : (f : ℕ → Bool) (n : ℕ) → count_below f (n + 1) ≡ count_below f n + cond (f n) 1 0
one_below f n = sum_by-map-range_with_len_more (λ b. cond b 1 0) f 0 n n (omega arith)

pub same_below : (f g : ℕ → Bool) (n : ℕ) → ((i : ℕ) → i < n → f i ≡ g i) → count_below f n ≡ count_below g n
same_below f g n each = ap true_count (same_tables f g n each)

pub few_below : (f : ℕ → Bool) (n : ℕ) → count_below f n ≤ n
few_below f n =
    let few = count_by-le-length (λ bit. bit) (tabulate f n) in
    let long = length-map-range_with_len f 0 n in
    omega arith

-- the count of one word more
pub word_more : (f : ℕ → Bool) (n part total word : ℕ) → ((j : ℕ) → j < part → bit_of_word word j ≡ f (n + j)) → ((j : ℕ) → part ≤ j → bit_of_word word j ≡ false) → total ≡ count_below f n → total + count_ones word ≡ count_below f (n + part)
word_more f n part total word low clear is =
    let ones = ones_of_bits (λ j. f (n + j)) part word low clear in
    let more = count_more f n part in
    omega arith

-- ---- marks
pub reaches_fewer : (v : Validity) (n m : ℕ) → m ≤ n → Reaches v n → Reaches v m
reaches_fewer valid.NonNullable n m le h = tt
reaches_fewer valid.AllValid n m le h = tt
reaches_fewer valid.AllInvalid n m le h = tt
reaches_fewer (valid.Array bits) n m le h = omega arith

each_valid : (v : Validity) (i : ℕ) → (v ≡ valid.NonNullable) ⊎ (v ≡ valid.AllValid) → is_valid_at v i ≡ true
each_valid v i (inl is) = ap (λ u. is_valid_at u i) is
each_valid v i (inr is) = ap (λ u. is_valid_at u i) is

shifted : (n shift j : ℕ) → bit_of_word (n / 2 ^ shift) j ≡ bit_of_word n (shift + j)
unfolding bit_of_word
shifted n shift j = ap (λ (m : ℕ). m == 1) (from_shift n shift j)

pub ones_marked : (v : Validity) (start count j : ℕ) → (v ≡ valid.NonNullable) ⊎ (v ≡ valid.AllValid) → count ≤ 64 → j < count → bit_of_word (18446744073709551615 / 2 ^ (64 - count)) j ≡ is_valid_at v (start + j)
ones_marked v start count j is few h = shifted 18446744073709551615 (64 - count) j ∙ (bit_true 18446744073709551615 (64 - count + j) (bit_at_ones 64 (64 - count + j) (omega arith)) ∙ sym (each_valid v (start + j) is))

pub ones_clear : (count j : ℕ) → count ≤ 64 → count ≤ j → bit_of_word (18446744073709551615 / 2 ^ (64 - count)) j ≡ false
ones_clear count j few h = shifted 18446744073709551615 (64 - count) j ∙ none_above 18446744073709551615 (64 - count + j) (omega arith) (omega arith)

pub none_valid : (v : Validity) (i : ℕ) → v ≡ valid.AllInvalid → is_valid_at v i ≡ false
none_valid v i is = ap (λ u. is_valid_at u i) is

-- ---- answers
pub answer_is : (words : List ℕ) (i : ℕ) → is_set words i ≡ has_bit words i
unfolding is_set bit_of_word has_bit is_bit_set
answer_is words i = refl

pub word_itself : (words : List ℕ) (at j : ℕ) → at % 64 ≡ 0 → j < 64 → bit_of_word (get_or words (at / 64) 0) j ≡ has_bit words (at + j)
word_itself words at j none h =
    let place : (at + j) % 64 ≡ j = omega arith in
    ap (bit_of_word (get_or words (at / 64) 0)) (sym place) ∙ (sym (is_set_at words (at + j) (at / 64) (omega arith)) ∙ answer_is words (at + j))

cleared : (a b : Bool) → a ≡ false → (a && b) ≡ false
cleared false b h = refl
cleared true b h = let wrong : true ≡ false = h in cc

-- answers of marked items, a word of them
pub answered_more : (marks : Validity) (start : ℕ) (answers : List ℕ) (at k part total w a : ℕ) → ((j : ℕ) → j < part → bit_of_word w j ≡ is_valid_at marks (start + 64 * k + j)) → ((j : ℕ) → part ≤ j → bit_of_word w j ≡ false)
    → ((j : ℕ) → j < 64 → at + 64 * k + j < 1024 → bit_of_word a j ≡ has_bit answers (at + 64 * k + j)) → part ≤ 64 → at + 64 * k + part ≤ 1024 → total ≡ count_below (both (marked_from marks start) (answered_from answers at)) (64 * k)
    → total + count_ones (bit_and w a) ≡ count_below (both (marked_from marks start) (answered_from answers at)) (64 * k + part)
unfolding both marked_from answered_from
answered_more marks start answers at k part total w a low clear here few room is =
    word_more (both (marked_from marks start) (answered_from answers at)) (64 * k) part total (bit_and w a) (λ j h.
    let place : start + 64 * k + j ≡ start + (64 * k + j) = omega arith in
    let spot : at + 64 * k + j ≡ at + (64 * k + j) = omega arith in
    of_and w a j ∙ (ap (λ b. b && bit_of_word a j) (low j h ∙ ap (is_valid_at marks) place) ∙ ap (λ b. is_valid_at marks (start + (64 * k + j)) && b) (here j (omega arith) (omega arith) ∙ ap (has_bit answers) spot)))
    (λ j h. of_and w a j ∙ cleared (bit_of_word w j) (bit_of_word a j) (clear j h)) is

-- integers of marked items, one of them
bool_case : (b : Bool) → mir.Val.bool_byte b ≡ cond b 1 0
bool_case true = refl
bool_case false = refl

at_most_one : (b : Bool) → cond b 1 0 ≤ 1
at_most_one true = omega arith
at_most_one false = omega arith

pub passed_more : {X : Type 0} (value : X → ℤ) (test : ℤ → Bool) (xs : List X) (x : X) (word j count : ℕ) (set passes : Bool) → j < length xs → x ≡ get_or xs j x → set ≡ bit_of_word word j → passes ≡ test (value x)
    → (count ≡ count_below (both (bit_of_word word) (passed_in test (map value xs))) j) × (count ≤ j)
    → (count + mir.Val.bool_byte (set && passes) ≡ count_below (both (bit_of_word word) (passed_in test (map value xs))) (j + 1)) × (count + mir.Val.bool_byte (set && passes) ≤ j + 1)
unfolding both passed_in
passed_more value test xs x word j count set passes h is bit passed so_far =
    let f = both (bit_of_word word) (passed_in test (map value xs)) in
    let more = one_below f j in
    let here : mir.Val.bool_byte (set && passes) ≡ cond (f j) 1 0 =
    bool_case (set && passes) ∙ ap (λ b. cond b 1 0) (ap (λ b. b && passes) bit ∙ ap (λ b. bit_of_word word j && b) (passed ∙ ap test (sym (mapped_item value xs j x h is)))) in
    let one = at_most_one (f j) in
    (omega arith, omega arith)

-- one integer more, without marks
pub each_more : {X : Type 0} (value : X → ℤ) (test : ℤ → Bool) (xs : List X) (x : X) (j count : ℕ) (passes : Bool) → j < length xs → x ≡ get_or xs j x → passes ≡ test (value x) → (count ≡ count_below (passed_in test (map value xs)) j) × (count ≤ j)
    → (count + mir.Val.bool_byte passes ≡ count_below (passed_in test (map value xs)) (j + 1)) × (count + mir.Val.bool_byte passes ≤ j + 1)
unfolding passed_in
each_more value test xs x j count passes h is passed so_far =
    let f = passed_in test (map value xs) in
    let more = one_below f j in
    let here : mir.Val.bool_byte passes ≡ cond (f j) 1 0 = bool_case passes ∙ ap (λ b. cond b 1 0) (passed ∙ ap test (sym (mapped_item value xs j x h is))) in
    let one = at_most_one (f j) in
    (omega arith, omega arith)

-- all are marked by a full word
pub full_marks : (passed : ℕ → Bool) (word n : ℕ) → word ≡ 18446744073709551615 → n ≤ 64 → count_below passed n ≡ count_below (both (bit_of_word word) passed) n
unfolding both
full_marks passed word n is few =
    same_below passed (both (bit_of_word word) passed) n (λ i h. sym (ap (λ b. b && passed i) (ap (λ (w : ℕ). bit_of_word w i) is ∙ bit_true 18446744073709551615 i (bit_at_ones 64 i (omega arith)))))

-- those of a word
pub items_more : {X : Type 0} (value : X → ℤ) (test : ℤ → Bool) (xs part : List X) (marks : Validity) (start k n total word count : ℕ) → 64 * k < length xs → n ≡ min (length xs - 64 * k) 64 → part ≡ take n (drop (64 * k) xs)
    → ((j : ℕ) → j < n → bit_of_word word j ≡ is_valid_at marks (start + 64 * k + j)) → count ≡ count_below (both (bit_of_word word) (passed_in test (map value part))) (length part)
    → total ≡ count_below (both (marked_from marks start) (passed_in test (map value xs))) (64 * k)
    → total + count ≡ count_below (both (marked_from marks start) (passed_in test (map value xs))) (64 * k + n)
unfolding both marked_from passed_in
items_more value test xs part marks start k n total word count inside n_is part_is low counted is =
    let f = both (marked_from marks start) (passed_in test (map value xs)) in
    let left = length-drop (64 * k) xs in
    let long : length part ≡ n = ap length part_is ∙ (length-take n (drop (64 * k) xs) ∙ omega arith) in
    let same : count_below (both (bit_of_word word) (passed_in test (map value part))) n ≡ count_below (λ j. f (64 * k + j)) n = same_below (both (bit_of_word word) (passed_in test (map value part))) (λ j. f (64 * k + j)) n (λ j h.
    let place : start + 64 * k + j ≡ start + (64 * k + j) = omega arith in
    let item : get_or (map value part) j (pos 0) ≡ get_or (map value xs) (64 * k + j) (pos 0) =
    ap (λ ys. get_or (map value ys) j (pos 0)) part_is ∙ (ap (λ ys. get_or ys j (pos 0)) (sym (part_of value xs (64 * k) 64 n n_is)) ∙ (get_or-take 64 (drop (64 * k) (map value xs)) j (pos 0) (omega arith) ∙ get_or-drop (64 * k) (map value xs) j (pos 0))) in
    ap (λ b. b && test (get_or (map value part) j (pos 0))) (low j h ∙ ap (is_valid_at marks) place) ∙ ap (λ z. is_valid_at marks (start + (64 * k + j)) && test z) item) in
    let more = count_more f (64 * k) n in
    let here : count ≡ count_below (both (bit_of_word word) (passed_in test (map value part))) n = counted ∙ ap (count_below (both (bit_of_word word) (passed_in test (map value part)))) long in
    omega arith
