-- Bits in words, and lists of them.
use Rattle.std.proofs.Common.{◌≡◌, ℕ, ◌+◌, ◌-◌, ◌*◌, ◌/◌, ◌%◌, ◌^◌, ◌<◌, ◌≤◌, ◌==◌, List, [], ◌∷◌, ◌++◌, Bool, true, ◌&&◌, length, get_or, set, drop, slice_get, ◌≢◌, Some, false, Result, Ok, Err, IfOk, IfErr, refl, ◌∙◌, ap, sym, subst, inl, inr, arith}
use Rattle.std.proofs.lemmas.Bool.{cases_lt, cases_eq}
use Rattle.std.proofs.lemmas.Nat.Bits.{bit_at-zero, bit_at_set_same, bit_at_set_other, bit_at_clear_same, bit_at_clear_other}
use Rattle.std.specs.Int.{bit_not, w64}
use Rattle.std.specs.Int.Bits.{bit_or, bit_and}
use Rattle.std.proofs.lemmas.List.{get_or_append_left, get_or_push, get_or-set_same, get_or-set_other, get_or-take, get_or-drop, length-take, length-drop, drop_more}
use Rattle.std.proofs.lemmas.List.FromFn.{length-map-range_with_len, get_or-map-range_with_len, map-range_with_len_more, fill_by_all}
use Rattle.std.proofs.lemmas.Option.{slice_get-get_or, slice_get_within, get_or_from_slice_get}
use Rattle.std.specs.Bool.{beq}
use Rattle.std.specs.Cmp.Lexicographic.{pointwise}
use Rattle.fl_types.specs.Refusals.{Answers}
use Rattle.fl_types.specs.declared.error.FastLanesError.{FastLanesError}
use Rattle.fl_types.specs.declared.error.FastLanesError.TheVariants.{OutOfMemory}
use Rattle.fl_types.specs.Bits.{between, bit_of_word, first_bits, is_set, tabulate}

pub length_first_bits : (words : List ℕ) (n : ℕ) → length (first_bits words n) ≡ n
unfolding first_bits
length_first_bits words n = length-map-range_with_len (is_set words) 0 n

pub get_table : {A : Type 0} (f : ℕ → A) (n i : ℕ) → i < n → slice_get (tabulate f n) i ≡ Some (f i)
get_table f n i h =
    slice_get-get_or (tabulate f n) i (f i) (omega (arith, length-map-range_with_len f 0 n)) ∙ ap (λ x. Some x) (get_or-map-range_with_len f 0 n i i (f i) h (omega arith))

pub get_first_bits : (words : List ℕ) (n i : ℕ) → i < n → slice_get (first_bits words n) i ≡ Some (is_set words i)
unfolding first_bits
get_first_bits words n i h = get_table (is_set words) n i h

-- a bit that is put into a word
pub bit_set : (word at : ℕ) → at < 64 → bit_of_word (bit_or word (1 * 2 ^ at % 18446744073709551616)) at ≡ true
unfolding bit_of_word
bit_set word at h = ap (λ b. b == 1) (bit_at_set_same w64 word at h)

-- and the others
pub bit_kept : (word at j : ℕ) → at < 64 → j ≢ at → bit_of_word (bit_or word (1 * 2 ^ at % 18446744073709551616)) j ≡ bit_of_word word j
unfolding bit_of_word
bit_kept word at j h e = ap (λ b. b == 1) (bit_at_set_other w64 word at h j e)

pub ruleset set_bits = (bit_set, bit_kept)

-- a bit that is taken out of a word
pub bit_cleared : (word at : ℕ) → at < 64 → bit_of_word (bit_and word (bit_not w64 (1 * 2 ^ at % 18446744073709551616))) at ≡ false
unfolding bit_of_word
bit_cleared word at h = ap (λ b. b == 1) (bit_at_clear_same w64 word at h)

-- and the others
pub bit_left : (word at j : ℕ) → at < 64 → j < 64 → j ≢ at → bit_of_word (bit_and word (bit_not w64 (1 * 2 ^ at % 18446744073709551616))) j ≡ bit_of_word word j
unfolding bit_of_word
bit_left word at j h k e = ap (λ b. b == 1) (bit_at_clear_other w64 word at h j k e)

-- no bit of 0 is set
pub no_bit : (j : ℕ) → bit_of_word 0 j ≡ false
unfolding bit_of_word
no_bit j = ap (λ b. b == 1) (bit_at-zero j)

-- one more bit: what holds of each bit below, and of the new one
pub bits_more : (P : ℕ → Bool → Type 0) (old new t : ℕ) (on : Bool) → ((j : ℕ) → j < t → P j (bit_of_word old j)) → ((j : ℕ) → j ≢ t → bit_of_word new j ≡ bit_of_word old j) → bit_of_word new t ≡ on → P t on
    → (j : ℕ) → j < t + 1 → P j (bit_of_word new j)
bits_more P old new t on below same top here j h =
    elim (cases_eq j t) [
      | inl e ↦ subst (λ i. P i (bit_of_word new i)) (sym e) (subst (P t) (sym top) here)
      | inr other ↦ subst (P j) (sym (same j other)) (below j (omega arith))
    ]

-- bit i of words to which one was added
pub is_set_below : (words : List ℕ) (word i : ℕ) → i < 64 * length words → is_set (words ++ word ∷ []) i ≡ is_set words i
unfolding is_set
is_set_below words word i h = ap (λ w. bit_of_word w (i % 64)) (get_or_append_left words (word ∷ []) 0 (i / 64) (omega arith))

pub is_set_last : (words : List ℕ) (word i : ℕ) → 64 * length words ≤ i → i < 64 * length words + 64 → is_set (words ++ word ∷ []) i ≡ bit_of_word word (i - 64 * length words)
unfolding is_set
is_set_last words word i low high =
    let at : i / 64 ≡ length words = omega arith in
    let rest : i % 64 ≡ i - 64 * length words = omega arith in
    rw (at, rest) (ap (λ w. bit_of_word w (i - 64 * length words)) (get_or_push words word 0 (length words) refl))

-- one more word: what holds of each bit before, and of those of the new one
pub words_more : (P : ℕ → Bool → Type 0) (words : List ℕ) (word k n count : ℕ) → length words ≡ k → n ≡ 64 * k → count ≤ 64
    → ((i : ℕ) → i < 64 * k → P i (is_set words i)) → ((j : ℕ) → j < count → P (n + j) (bit_of_word word j))
    → (i : ℕ) → i < n + count → P i (is_set (words ++ word ∷ []) i)
words_more P words word k n count len from room below here i h =
    elim (cases_lt i n) [
      | inl before ↦ subst (P i) (sym (is_set_below words word i (omega arith))) (below i (omega arith))
      | inr after ↦
          let at : n + (i - n) ≡ i = omega arith in
          let rest : i - n ≡ i - 64 * length words = omega arith in
          let last : is_set (words ++ word ∷ []) i ≡ bit_of_word word (i - n) = is_set_last words word i (omega arith) (omega arith) ∙ ap (bit_of_word word) (sym rest) in
          subst (P i) (sym last) (subst (λ m. P m (bit_of_word word (i - n))) at (here (i - n) (omega arith)))
    ]

-- the bits of a list of bits
pub each_first_bit : (P : ℕ → Bool → Type 0) (words : List ℕ) (n : ℕ) → ((i : ℕ) → i < n → P i (is_set words i)) → (i : ℕ) → i < n → P i (get_or (first_bits words n) i false)
unfolding first_bits
each_first_bit P words n h i k = subst (P i) (sym (get_or-map-range_with_len (is_set words) 0 n i i false k (omega arith))) (h i k)

-- a table with the same entries is the same
pub same_tables : {A : Type 0} (f g : ℕ → A) (n : ℕ) → ((i : ℕ) → i < n → f i ≡ g i) → tabulate f n ≡ tabulate g n
same_tables f g n h =
    fill_by_all g (tabulate f n) n (f 0) (length-map-range_with_len f 0 n) (λ k below. get_or-map-range_with_len f 0 n k k (f 0) below (omega arith) ∙ h k below)

-- one more bit behind the first n
first_bits_more : (old new : List ℕ) (n : ℕ) (bit : Bool) → ((i : ℕ) → i < n → is_set new i ≡ is_set old i) → is_set new n ≡ bit
    → first_bits new (n + 1) ≡ first_bits old n ++ bit ∷ []
unfolding first_bits
first_bits_more old new n bit same here =
    map-range_with_len_more (is_set new) 0 n n (omega arith) ∙ (ap (λ xs. xs ++ is_set new n ∷ []) (same_tables (is_set new) (is_set old) n same) ∙ ap (λ b. tabulate (is_set old) n ++ b ∷ []) here)

-- a bit in a word of its own
pub bit_in_new_word : (words : List ℕ) (word n : ℕ) (bit : Bool) → length words ≡ (n + 63) / 64 → n % 64 ≡ 0 → bit_of_word word 0 ≡ bit
    → first_bits (words ++ word ∷ []) (n + 1) ≡ first_bits words n ++ bit ∷ []
bit_in_new_word words word n bit len zero_rest is =
    first_bits_more words (words ++ word ∷ []) n bit (λ i h. is_set_below words word i (omega arith))
    (let from : n - 64 * length words ≡ 0 = omega arith in
    is_set_last words word n (omega arith) (omega arith) ∙ (rw from is))

pub is_set_in : (words : List ℕ) (word k i : ℕ) → k < length words → i / 64 ≡ k → is_set (set words k word) i ≡ bit_of_word word (i % 64)
unfolding is_set
is_set_in words word k i h e = rw e (ap (λ w. bit_of_word w (i % 64)) (get_or-set_same words k word 0 h))

pub is_set_out : (words : List ℕ) (word k i : ℕ) → i / 64 ≢ k → is_set (set words k word) i ≡ is_set words i
unfolding is_set
is_set_out words word k i e = ap (λ w. bit_of_word w (i % 64)) (get_or-set_other words k (i / 64) word 0 e)

pub is_set_at : (words : List ℕ) (i k : ℕ) → i / 64 ≡ k → is_set words i ≡ bit_of_word (get_or words k 0) (i % 64)
unfolding is_set
is_set_at words i k e = rw e refl

-- a bit above those of the last word
pub bit_in_last_word : (words : List ℕ) (n at : ℕ) (bit : Bool) (word new : ℕ) → length words ≡ (n + 63) / 64 → n % 64 ≡ at → 0 < at → word ≡ get_or words (n / 64) 0
    → bit_of_word new at ≡ bit → ((j : ℕ) → j ≢ at → bit_of_word new j ≡ bit_of_word (bit_and word (bit_not w64 (1 * 2 ^ at % 18446744073709551616))) j)
    → first_bits (set words (n / 64) new) (n + 1) ≡ first_bits words n ++ bit ∷ []
bit_in_last_word words n at bit word new len rest some here top same =
    let k = n / 64 in
    let within : k < length words = omega arith in
    first_bits_more words (set words k new) n bit
    (λ i h. elim (cases_eq (i / 64) k) [
      | inl e ↦
          let below : i % 64 < at = omega arith in
          let away : i % 64 ≢ at = omega arith in
          is_set_in words new k i within e ∙ (same (i % 64) away ∙ (bit_left word at (i % 64) (omega arith) (omega arith) away ∙ (ap (λ w. bit_of_word w (i % 64)) here ∙ sym (is_set_at words i k e))))
      | inr other ↦ is_set_out words new k i other
    ])
    (is_set_in words new k n within refl ∙ (rw rest top))

-- the bit behind them is not set
pub last_bit_cleared : (word n at : ℕ) → n % 64 ≡ at → bit_of_word (bit_and word (bit_not w64 (1 * 2 ^ at % 18446744073709551616))) at ≡ false
last_bit_cleared word n at rest = bit_cleared word at (omega arith)

-- a part of a list, by its items
pub table_between : {A : Type 0} (xs : List A) (start end : ℕ) (d : A) → start ≤ end → end ≤ length xs → tabulate (λ i. get_or xs (start + i) d) (end - start) ≡ between start end xs
table_between xs start end d order range =
    let part = between start end xs in
    let len : length part ≡ end - start = grind (arith, length-take, length-drop) in
    sym (fill_by_all (λ i. get_or xs (start + i) d) part (end - start) d len (λ k h. get_or-take (end - start) (drop start xs) k d h ∙ get_or-drop start xs k d))

-- a list of bits that are what f says is the table of f
pub made_of : {E : Type 0} (f : ℕ → Bool) (n : ℕ) (r : Result (List Bool) E) → IfOk r (λ b. length b ≡ n) → IfOk r (λ b. (i : ℕ) → i < n → get_or b i false ≡ f i) → IfOk r (λ b. b ≡ tabulate f n)
made_of f n (Ok b) len bits = fill_by_all f b n false len bits
made_of f n (Err e) len bits = tt

-- the list that a closure made, or a refusal
pub answered : (f : ℕ → Bool) (n : ℕ) (r : Result (List Bool) FastLanesError) → IfOk r (λ b. length b ≡ n) → IfOk r (λ b. (i : ℕ) → i < n → get_or b i false ≡ f i) → IfErr r (λ e. e ≡ OutOfMemory) → Answers (λ b. b) r (Ok (tabulate f n))
answered f n (Ok b) e h memory = ap Ok (sym (made_of {E = FastLanesError} f n (Ok b) e h))
answered f n (Err e) len h memory = rw memory tt

-- two lists from a place on are equal where the items there are, and those behind
pub equal_from : (xs ys : List Bool) (i : ℕ) (x y : Bool) → slice_get xs i ≡ Some x → slice_get ys i ≡ Some y
    → pointwise beq (drop i xs) (drop i ys) ≡ (beq x y && pointwise beq (drop (i + 1) xs) (drop (i + 1) ys))
equal_from xs ys i x y hx hy =
    ap (λ l. pointwise beq l (drop i ys)) (drop_more xs i x (slice_get_within xs i x hx))
    ∙ ap (λ l. pointwise beq (get_or xs i x ∷ drop (i + 1) xs) l) (drop_more ys i y (slice_get_within ys i y hy))
    ∙ ap (λ b. beq b (get_or ys i y) && pointwise beq (drop (i + 1) xs) (drop (i + 1) ys)) (get_or_from_slice_get xs i x x hx)
    ∙ ap (λ b. beq x b && pointwise beq (drop (i + 1) xs) (drop (i + 1) ys)) (get_or_from_slice_get ys i y y hy)
