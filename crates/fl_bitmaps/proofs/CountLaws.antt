-- Answers that are counted.
use Rattle.std.proofs.Common.{◌≡◌, ◌≢◌, ℕ, ◌+◌, ◌*◌, ◌%◌, ◌^◌, ◌<◌, ◌≤◌, ◌&&◌, List, [], ◌∷◌, Bool, true, false, Some, None, length, map, cond, count_by, count_ones, bit_and, refl, ap, sym, ◌∙◌, arith}
use Rattle.std.specs.Prelude.{slice_index}
use Rattle.std.specs.List.{range_with_len}
use Rattle.std.proofs.lemmas.List.Sums.{count_by-le-length, sum_by-cons}
use Rattle.std.proofs.lemmas.List.FromFn.{length-map-range_with_len, sum_by-map-range_with_len_more}
use Rattle.std.proofs.lemmas.Simd.{map-map}
use Rattle.fastlanes.specs.Layout.{word_at}
use Rattle.fl_types.specs.Bits.{bit_of_word, tabulate, true_count}
use Rattle.fl_types.proofs.BitLists.{same_tables}
use Rattle.fl_types.proofs.WordBits.{count_more, none_above, ones_of_bits}
use Rattle.fl_column.specs.Bitmaps.{bit_in}
use Rattle.fl_column.proofs.BitmapLaws.{word_in}
use Rattle.fl_bitmaps.specs.Answers.{answers_in, is_true}
use Rattle.fl_bitmaps.proofs.AnswerLaws.{answer_at, answers_table}
use Rattle.fl_bitmaps.proofs.BitLaws.{all_known, of_and}

-- whether bit i is set in both bitmaps
abbrev pub in_both : List ℕ → List ℕ → ℕ → Bool
in_both left right i = bit_in left i && bit_in right i

-- one more word is counted
pub word_counted : (left right : List ℕ) (k a b count : ℕ) → ((i : ℕ) → slice_index left i < 256) → ((i : ℕ) → slice_index right i < 256) → a < 2 ^ 64 → a ≡ word_at 64 left k → b ≡ word_at 64 right k
    → count ≡ true_count (tabulate (in_both left right) (64 * k)) → count + count_ones (bit_and a b) ≡ true_count (tabulate (in_both left right) (64 * (k + 1)))
word_counted left right k a b count small few low is other_is before =
    let end : 64 * (k + 1) ≡ 64 * k + 64 = omega arith in
    let ones = ones_of_bits (λ j. in_both left right (64 * k + j)) 64 (bit_and a b)
    (λ j h. of_and a b j ∙ ap (λ x. x && bit_of_word b j) (word_in left k a j small is h) ∙ ap (λ x. bit_in left (64 * k + j) && x) (word_in right k b j few other_is h))
    (λ j h. of_and a b j ∙ ap (λ x. x && bit_of_word b j) (none_above a j low h)) in
    let more = count_more (in_both left right) (64 * k) 64 in
    rw end (omega arith)

-- one more bit is counted
pub bit_counted : (f : ℕ → Bool) (i count new : ℕ) → f i ≡ true → count ≡ true_count (tabulate f i) → new ≡ count + 1 → new ≡ true_count (tabulate f (i + 1))
bit_counted f i count new set before is =
    let more = sum_by-map-range_with_len_more (λ b. cond b 1 0) f 0 i i (omega arith) in
    let one : ◌≡◌ {A = ℕ} (cond (f i) 1 0) 1 = ap (λ b. cond b 1 0) set in omega arith

-- or is not
pub bit_left : (f : ℕ → Bool) (i count new : ℕ) → f i ≡ false → count ≡ true_count (tabulate f i) → new ≡ count → new ≡ true_count (tabulate f (i + 1))
bit_left f i count new unset before is =
    let more = sum_by-map-range_with_len_more (λ b. cond b 1 0) f 0 i i (omega arith) in
    let none : ◌≡◌ {A = ℕ} (cond (f i) 1 0) 0 = ap (λ b. cond b 1 0) unset in omega arith

-- there are no more than bits
pub few_counted : (f : ℕ → Bool) (n : ℕ) → true_count (tabulate f n) ≤ n
few_counted f n = omega (arith, count_by-le-length (λ (b : Bool). b) (tabulate f n), length-map-range_with_len f 0 n)

true_bit : (known bit : Bool) → is_true (cond known (Some bit) None) ≡ (bit && known)
true_bit true true = refl
true_bit true false = refl
true_bit false true = refl
true_bit false false = refl

twice : (b : Bool) → (b && true) ≡ (b && b)
twice true = refl
twice false = refl

counted_map : {A : Type 0} (p : A → Bool) (xs : List A) → count_by p xs ≡ true_count (map p xs)
counted_map p [] = refl
counted_map p (x ∷ xs) =
    let more = sum_by-cons (λ y. cond (p y) 1 0) x xs in
    let same = sum_by-cons (λ (b : Bool). cond b 1 0) (p x) (map p xs) in
    let rest = counted_map p xs in omega arith

counted_by : (bits validity : List ℕ) (n : ℕ) (f : ℕ → Bool) → ((i : ℕ) → i < n → is_true (answer_at bits validity i) ≡ f i) → true_count (tabulate f n) ≡ count_by is_true (answers_in n bits validity)
counted_by bits validity n f each =
    sym (ap (count_by is_true) (answers_table n bits validity) ∙ counted_map is_true (tabulate (answer_at bits validity) n) ∙ ap true_count (map-map is_true (answer_at bits validity) (range_with_len 0 n))
    ∙ ap true_count (same_tables (λ i. is_true (answer_at bits validity i)) f n each))

-- the true answers are those whose bits are set in both bitmaps
pub answers_counted : (bits validity : List ℕ) (n : ℕ) → length validity ≢ 0 → true_count (tabulate (in_both bits validity) n) ≡ count_by is_true (answers_in n bits validity)
unfolding bit_in
answers_counted bits [] n some = absurd (some refl)
answers_counted bits (byte ∷ bytes) n some = counted_by bits (byte ∷ bytes) n (in_both bits (byte ∷ bytes)) (λ i h. true_bit (bit_in (byte ∷ bytes) i) (bit_in bits i))

-- or, where all are known, whose bits are set
pub known_counted : (bits validity : List ℕ) (n : ℕ) → length validity ≡ 0 → true_count (tabulate (in_both bits bits) n) ≡ count_by is_true (answers_in n bits validity)
unfolding bit_in
known_counted bits (byte ∷ bytes) n none = absurd (omega arith)
known_counted bits [] n none = counted_by bits [] n (in_both bits bits) (λ i h.
    let known = all_known (i % 8) (omega arith) in
    true_bit (bit_of_word 255 (i % 8)) (bit_in bits i) ∙ ap (λ b. bit_in bits i && b) known ∙ twice (bit_in bits i))
