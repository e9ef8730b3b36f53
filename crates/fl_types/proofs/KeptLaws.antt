-- Bits that a mask keeps, by words.
use Rattle.std.proofs.Common.{inl, inr, ◌≡◌, ◌≢◌, ℕ, zero, suc, ◌+◌, ◌-◌, ◌*◌, ◌/◌, ◌%◌, ◌^◌, ◌<◌, ◌≤◌, ◌==◌, ◌||◌, List, [], ◌∷◌, ◌++◌, Bool, true, false, cond, length, get_or, set, take, drop, replicate, bit_and, count_ones, refl, ap, sym, ◌∙◌, arith, add-zero, append_assoc, append-nil}
use Rattle.std.specs.Int.{bit_at, bit_not, w64}
use Rattle.std.proofs.Math.Nat.{suc-mul}
use Rattle.std.proofs.lemmas.Bool.{cases_eq, cases_lt, eqb-true}
use Rattle.std.proofs.lemmas.Nat.{pow_pos, shr_split}
use Rattle.std.proofs.lemmas.Nat.Bits.{bit_at_and, bit_at_cat_high, bit_at_lowest, bit_at_not, bit_at_ones, bit_at-lt, bit_at-suc, bit_at_above, bit_at-zero, same_from_bits}
use Rattle.std.proofs.lemmas.List.{drop_all, get_or_past, get_or-replicate, get_or-set_same, get_or-set_other, length-replicate, length-set, length-take, length-drop, get_or-take, get_or-drop, drop-drop}
use Rattle.std.proofs.lemmas.List.FromFn.{fill_by_all, get_or-map-range_with_len, length-map-range_with_len, take-map-range_with_len}
use Rattle.std.proofs.lemmas.List.Sums.{sum_by-cons}
use Rattle.fl_types.specs.Bits.{bit_of_word, bits_of_word, kept, tabulate, true_count}
use Rattle.fl_types.proofs.BitLists.{no_bit, same_tables}
use Rattle.fl_types.proofs.MovedBits.{low_bit}
use Rattle.fl_types.proofs.WordBits.{few_ones, none_above, ones_of_bits}

-- a number whose lowest set bit is bit t, and the number below it
lowest : (n t : ℕ) → bit_at n t ≡ 1 → ((i : ℕ) → i < t → bit_at n i ≡ 0) → n ≡ n / 2 ^ t * 2 ^ t
lowest n t here below =
    let none : n % 2 ^ t ≡ 0 = same_from_bits (n % 2 ^ t) 0 (λ i. elim (cases_lt i t) [
      | inl low ↦ low_bit n t i low ∙ below i low ∙ sym (bit_at-zero i)
      | inr high ↦ bit_at_above (n % 2 ^ t) t i (let some = pow_pos t in omega arith) high ∙ sym (bit_at-zero i)
    ]) in
    let split = shr_split n t in
    omega arith

less_one : (n t q p : ℕ) → n ≡ q * p → 0 < q → 0 < p → n - 1 ≡ (q - 1) * p + (p - 1)
less_one n t zero p e h k = absurd (omega arith)
less_one n t (suc q) p e h k =
    let expand : suc q * p ≡ q * p + p = suc-mul q p in
    let whole : suc q - 1 ≡ q = omega arith in
    let body : n - 1 ≡ q * p + (p - 1) = omega arith in
    body ∙ ap (λ (m : ℕ). m * p + (p - 1)) (sym whole)

odd_high : (q e : ℕ) → q % 2 ≡ 1 → 0 < e → bit_at (q - 1) e ≡ bit_at q e
odd_high q zero odd h = absurd (omega arith)
odd_high q (suc e) odd h = let half : (q - 1) / 2 ≡ q / 2 = omega arith in bit_at-suc (q - 1) e ∙ ap (λ (m : ℕ). bit_at m e) half ∙ sym (bit_at-suc q e)

-- the number below has those of the bits above
below_high : (n t j : ℕ) → bit_at n t ≡ 1 → ((i : ℕ) → i < t → bit_at n i ≡ 0) → t ≤ j → bit_at (n - 1) j ≡ bit_at (n / 2 ^ t - 1) (j - t)
below_high n t j here below h =
    let some = pow_pos t in
    let first : 0 < n / 2 ^ t = omega (arith, here) in
    ap (λ (m : ℕ). bit_at m j) (less_one n t (n / 2 ^ t) (2 ^ t) (lowest n t here below) first some) ∙ bit_at_cat_high (n / 2 ^ t - 1) t (2 ^ t - 1) j (omega arith) h

-- without its lowest set bit, a number does not have that bit
pub lowest_cleared : (n t : ℕ) → bit_at n t ≡ 1 → ((i : ℕ) → i < t → bit_at n i ≡ 0) → bit_at (bit_and n (n - 1)) t ≡ 0
lowest_cleared n t here below =
    let none : t - t ≡ 0 = omega arith in
    let low : bit_at (n - 1) t ≡ (n / 2 ^ t - 1) % 2 = below_high n t t here below (omega arith) ∙ ap (λ (m : ℕ). bit_at (n / 2 ^ t - 1) m) none ∙ bit_at_lowest (n / 2 ^ t - 1) in
    let odd : n / 2 ^ t % 2 ≡ 1 = here in
    let both = bit_at_and n (n - 1) t in
    omega arith

-- and has the others
pub others_left : (n t j : ℕ) → bit_at n t ≡ 1 → ((i : ℕ) → i < t → bit_at n i ≡ 0) → j ≢ t → bit_at (bit_and n (n - 1)) j ≡ bit_at n j
others_left n t j here below other = bit_at_and n (n - 1) j ∙ elim (cases_lt j t) [
  | inl low ↦ (let none = below j low in omega arith)
  | inr high ↦
      let same : bit_at (n - 1) j ≡ bit_at n j = below_high n t j here below high ∙ odd_high (n / 2 ^ t) (j - t) here (omega arith)
      ∙ sym (ap (λ (m : ℕ). bit_at m j) (lowest n t here below ∙ sym (add-zero (n / 2 ^ t * 2 ^ t))) ∙ bit_at_cat_high (n / 2 ^ t) t 0 j (pow_pos t) high) in
      omega arith
]

pub kept_nothing : {A : Type 0} (bits : List Bool) → kept {A = A} bits [] ≡ []
kept_nothing [] = refl
kept_nothing (b ∷ bits) = refl

-- a mask in two parts
pub kept_split : {A : Type 0} (n : ℕ) (bits : List Bool) (xs : List A) → kept bits xs ≡ kept (take n bits) (take n xs) ++ kept (drop n bits) (drop n xs)
kept_split zero bits xs = refl
kept_split (suc n) [] xs = refl
kept_split (suc n) (b ∷ bits) [] = sym (kept_nothing (drop n bits))
kept_split (suc n) (true ∷ bits) (x ∷ xs) = ap (λ l. x ∷ l) (kept_split n bits xs)
kept_split (suc n) (false ∷ bits) (x ∷ xs) = kept_split n bits xs

-- a mask that keeps nothing
pub kept_none : {A : Type 0} (bits : List Bool) (xs : List A) → ((i : ℕ) → i < length bits → get_or bits i false ≡ false) → kept bits xs ≡ []
kept_none [] xs each = refl
kept_none (b ∷ bits) [] each = refl
kept_none (b ∷ bits) (x ∷ xs) each = rw (each 0 (omega arith)) (kept_none bits xs (λ i h. each (suc i) (omega arith)))

-- a mask with more bits, which are not set
kept_padded : (bs xs cs ys : List Bool) → length bs ≡ length xs → length bs ≤ length cs → length cs ≤ length ys → ((i : ℕ) → get_or bs i false ≡ get_or cs i false) → ((i : ℕ) → i < length xs → get_or xs i false ≡ get_or ys i false) → kept bs xs ≡ kept cs ys
kept_padded [] [] cs ys even h k mask items = sym (kept_none cs ys (λ i l. sym (mask i)))
kept_padded [] (x ∷ xs) cs ys even h k mask items = absurd (omega arith)
kept_padded (b ∷ bs) [] cs ys even h k mask items = absurd (omega arith)
kept_padded (b ∷ bs) (x ∷ xs) [] ys even h k mask items = absurd (omega arith)
kept_padded (b ∷ bs) (x ∷ xs) (c ∷ cs) [] even h k mask items = absurd (omega arith)
kept_padded (b ∷ bs) (x ∷ xs) (c ∷ cs) (y ∷ ys) even h k mask items =
    let rest = kept_padded bs xs cs ys (omega arith) (omega arith) (omega arith) (λ i. mask (suc i)) (λ i l. items (suc i) (omega arith)) in
    rw (mask 0, items 0 (omega arith)) (ap (λ l. cond c (y ∷ l) l) rest)

-- a kept item that changes
kept_set : {A : Type 0} (bits : List Bool) (xs : List A) (t : ℕ) (x : A) → get_or bits t false ≡ true → kept bits (set xs t x) ≡ set (kept bits xs) (true_count (take t bits)) x
kept_set [] xs t x e = absurd (false_true e)
  where
    false_true : false ≡ true → ⊥
    false_true e = cc
kept_set (b ∷ bits) [] t x e = refl
kept_set (true ∷ bits) (y ∷ ys) zero x e = refl
kept_set (false ∷ bits) (y ∷ ys) zero x e = absurd (false_true e)
  where
    false_true : false ≡ true → ⊥
    false_true e = cc
kept_set (true ∷ bits) (y ∷ ys) (suc t) x e =
    let more : true_count (true ∷ take t bits) ≡ suc (true_count (take t bits)) = omega (arith, sum_by-cons (λ bit. cond bit 1 0) true (take t bits)) in
    rw more (ap (λ l. y ∷ l) (kept_set bits ys t x e))
kept_set (false ∷ bits) (y ∷ ys) (suc t) x e =
    let same : true_count (false ∷ take t bits) ≡ true_count (take t bits) = omega (arith, sum_by-cons (λ bit. cond bit 1 0) false (take t bits)) in
    rw same (kept_set bits ys t x e)

-- a mask that keeps only what is true
kept_true : (bits ys : List Bool) → length bits ≤ length ys → ((i : ℕ) → get_or bits i false ≡ true → get_or ys i false ≡ true) → kept bits ys ≡ replicate (true_count bits) true
kept_true [] ys h each = refl
kept_true (b ∷ bits) [] h each = absurd (omega arith)
kept_true (true ∷ bits) (y ∷ ys) h each =
    let more : true_count (true ∷ bits) ≡ suc (true_count bits) = omega (arith, sum_by-cons (λ bit. cond bit 1 0) true bits) in
    rw (more, each 0 refl) (ap (λ l. true ∷ l) (kept_true bits ys (omega arith) (λ i. each (suc i))))
kept_true (false ∷ bits) (y ∷ ys) h each =
    let same : true_count (false ∷ bits) ≡ true_count bits = omega (arith, sum_by-cons (λ bit. cond bit 1 0) false bits) in
    rw same (kept_true bits ys (omega arith) (λ i. each (suc i)))

-- a table of which one entry changes
table_set : (f g : ℕ → Bool) (n t : ℕ) (b : Bool) → g t ≡ b → ((i : ℕ) → i < n → i ≢ t → g i ≡ f i) → tabulate g n ≡ set (tabulate f n) t b
table_set f g n t b here others =
    let old = tabulate f n in
    let long : length old ≡ n = length-map-range_with_len f 0 n in
    sym (fill_by_all g (set old t b) n false (length-set old t b ∙ long) (λ k h. elim (cases_eq k t) [
      | inl e ↦ rw e (get_or-set_same old t b false (omega arith)) ∙ sym (ap g e ∙ here)
      | inr other ↦ get_or-set_other old t k b false other ∙ get_or-map-range_with_len f 0 n k k false h (omega arith) ∙ sym (others k h other)
    ]))

-- a bit that is set in one of two words
pub either_bit : ℕ → ℕ → ℕ → Bool
either_bit word rest j = bit_of_word word j || bit_of_word rest j

-- the bits that are set in one of two words
pub either_bits : ℕ → ℕ → List Bool
either_bits word rest = tabulate (either_bit word rest) 64

bit_test : (n j : ℕ) → bit_of_word n j ≡ true → bit_at n j ≡ 1
unfolding bit_of_word
bit_test n j set = eqb-true (bit_at n j) 1 set

pub bit_true : (n j : ℕ) → bit_at n j ≡ 1 → bit_of_word n j ≡ true
unfolding bit_of_word
bit_true n j e = ap (λ (m : ℕ). m == 1) e

bit_false : (n j : ℕ) → bit_at n j ≡ 0 → bit_of_word n j ≡ false
unfolding bit_of_word
bit_false n j e = ap (λ (m : ℕ). m == 1) e

-- a bit that is set without the lowest was set
pub bit_stays : (word t j : ℕ) → bit_at word t ≡ 1 → ((i : ℕ) → i < t → bit_at word i ≡ 0) → bit_of_word (bit_and word (word - 1)) j ≡ true → bit_of_word word j ≡ true
unfolding bit_of_word
bit_stays word t j here below set = elim (cases_eq j t) [
  | inl same ↦ ap (λ (m : ℕ). bit_at word m == 1) same ∙ ap (λ (m : ℕ). m == 1) here
  | inr other ↦ ap (λ (m : ℕ). m == 1) (sym (others_left word t j here below other)) ∙ set
]

-- the bits of a mask that a word doesn't have are bits of the mask
pub unset_in_mask : (word mask j : ℕ) → bit_of_word (bit_and mask (bit_not w64 word)) j ≡ true → bit_of_word mask j ≡ true
unset_in_mask word mask j set =
    let both = bit_at_and mask (bit_not w64 word) j in
    let one = bit_test (bit_and mask (bit_not w64 word)) j set in
    let few = bit_at-lt mask j in
    bit_true mask j (omega arith)

-- and not bits of the word
pub unset_in_word : (word mask j : ℕ) → word < 2 ^ 64 → j < 64 → bit_of_word (bit_and mask (bit_not w64 word)) j ≡ true → bit_of_word word j ≡ false
unset_in_word word mask j small h set =
    let both = bit_at_and mask (bit_not w64 word) j in
    let other = bit_at_not w64 word j small h in
    let one = bit_test (bit_and mask (bit_not w64 word)) j set in
    bit_false word j (omega arith)

-- each bit of the mask is one of the word, or one of those
either_in_mask : (word mask j : ℕ) → word < 2 ^ 64 → j < 64 → bit_of_word mask j ≡ true → either_bit word (bit_and mask (bit_not w64 word)) j ≡ true
unfolding either_bit
either_in_mask word mask j small h set = elim (cases_eq (bit_at word j) 1) [
  | inl on ↦ ap (λ b. b || bit_of_word (bit_and mask (bit_not w64 word)) j) (bit_true word j on)
  | inr off ↦
      let both = bit_at_and mask (bit_not w64 word) j in
      let other = bit_at_not w64 word j small h in
      let one = bit_test mask j set in
      let few = bit_at-lt word j in
      let rest : bit_of_word (bit_and mask (bit_not w64 word)) j ≡ true = bit_true _ j (omega arith) in
      ap (λ b. b || bit_of_word (bit_and mask (bit_not w64 word)) j) (bit_false word j (omega arith)) ∙ rest
]

-- all bits that are kept are set at first
pub gather_start : (word mask : ℕ) → word < 2 ^ 64 → mask < 2 ^ 64
    → tabulate (bit_of_word 18446744073709551615) (count_ones mask) ≡ kept (bits_of_word mask) (either_bits word (bit_and mask (bit_not w64 word)))
unfolding bits_of_word either_bits
gather_start word mask small few =
    let rest = bit_and mask (bit_not w64 word) in
    let bits = tabulate (bit_of_word mask) 64 in
    let n = count_ones mask in
    let most = few_ones mask few in
    let long : length bits ≡ 64 = length-map-range_with_len (bit_of_word mask) 0 64 in
    let count : n ≡ true_count bits = ones_of_bits (bit_of_word mask) 64 mask (λ j h. refl) (λ j h. none_above mask j few h) in
    let ones : replicate n true ≡ tabulate (bit_of_word 18446744073709551615) n = fill_by_all (bit_of_word 18446744073709551615) (replicate n true) n false (length-replicate n true) (λ k h.
    get_or-replicate n k true false h ∙ sym (bit_true 18446744073709551615 k (bit_at_ones 64 k (omega arith)))) in
    sym ones ∙ ap (λ (m : ℕ). replicate m true) count ∙ sym (kept_true bits (tabulate (either_bit word rest) 64) (omega (arith, long, length-map-range_with_len (either_bit word rest) 0 64)) (λ i set. elim (cases_lt i 64) [
      | inl low ↦ get_or-map-range_with_len (either_bit word rest) 0 64 i i false low (omega arith) ∙ either_in_mask word mask i small low (sym (get_or-map-range_with_len (bit_of_word mask) 0 64 i i false low (omega arith)) ∙ set)
      | inr high ↦ absurd (false_true (sym (get_or_past bits i false (omega arith)) ∙ set))
    ]))
  where
    false_true : false ≡ true → ⊥
    false_true e = cc

-- one of them is cleared
pub gather_step : (word mask old new rest t ones : ℕ) → mask < 2 ^ 64 → t < 64 → bit_at rest t ≡ 1 → ((i : ℕ) → i < t → bit_at rest i ≡ 0) → bit_of_word mask t ≡ true → bit_of_word word t ≡ false
    → ones ≡ true_count (tabulate (bit_of_word mask) t) → bit_of_word new ones ≡ false → ((j : ℕ) → j < 64 → j ≢ ones → bit_of_word new j ≡ bit_of_word old j)
    → tabulate (bit_of_word old) (count_ones mask) ≡ kept (bits_of_word mask) (either_bits word rest)
    → tabulate (bit_of_word new) (count_ones mask) ≡ kept (bits_of_word mask) (either_bits word (bit_and rest (rest - 1)))
unfolding bit_of_word bits_of_word either_bit either_bits
gather_step word mask old new rest t ones few low here below masked unset is cleared others before =
    let bits = tabulate (bit_of_word mask) 64 in
    let items = tabulate (either_bit word rest) 64 in
    let next = bit_and rest (rest - 1) in
    let n = count_ones mask in
    let most = few_ones mask few in
    let place : ones ≡ true_count (take t bits) = is ∙ ap true_count (sym (take-map-range_with_len (bit_of_word mask) 0 64 t (omega arith))) in
    let on : get_or bits t false ≡ true = get_or-map-range_with_len (bit_of_word mask) 0 64 t t false low (omega arith) ∙ masked in
    let gone : either_bit word next t ≡ false = ap (λ b. b || bit_of_word next t) unset ∙ bit_false next t (lowest_cleared rest t here below) in
    let left : tabulate (either_bit word next) 64 ≡ set items t false = table_set (either_bit word rest) (either_bit word next) 64 t false gone (λ i h away. ap (λ (m : ℕ). bit_of_word word i || (m == 1)) (others_left rest t i here below away)) in
    table_set (bit_of_word old) (bit_of_word new) n ones false cleared (λ i h away. others i (omega arith) away)
    ∙ ap (λ l. set l ones false) before ∙ ap (λ (m : ℕ). set (kept bits items) m false) place ∙ sym (kept_set bits items t false on) ∙ ap (λ l. kept bits l) (sym left)

-- and when none is left, they are those of the word
pub gather_end : (word mask old rest : ℕ) → rest ≡ 0 → tabulate (bit_of_word old) (count_ones mask) ≡ kept (bits_of_word mask) (either_bits word rest)
    → tabulate (bit_of_word old) (count_ones mask) ≡ kept (bits_of_word mask) (bits_of_word word)
unfolding bits_of_word either_bit either_bits
gather_end word mask old rest none before = before ∙ ap (λ l. kept (tabulate (bit_of_word mask) 64) l) (same_tables (either_bit word rest) (bit_of_word word) 64 (λ i h.
    ap (λ (m : ℕ). bit_of_word word i || bit_of_word m i) none ∙ ap (λ b. bit_of_word word i || b) (no_bit i) ∙ or_false (bit_of_word word i)))
  where
    or_false : (b : Bool) → (b || false) ≡ b
    or_false true = refl
    or_false false = refl

-- the bits of one more word are kept
pub filter_word : (mask bits taken new : List Bool) (k word_mask word gathered : ℕ) → length mask ≡ length bits → ((j : ℕ) → j < 64 → bit_of_word word_mask j ≡ get_or mask (64 * k + j) false) → ((j : ℕ) → j < 64 → bit_of_word word j ≡ get_or bits (64 * k + j) false)
    → tabulate (bit_of_word gathered) (count_ones word_mask) ≡ kept (bits_of_word word_mask) (bits_of_word word) → taken ++ kept (drop (64 * k) mask) (drop (64 * k) bits) ≡ kept mask bits
    → new ≡ taken ++ tabulate (bit_of_word gathered) (count_ones word_mask) → new ++ kept (drop (64 * (k + 1)) mask) (drop (64 * (k + 1)) bits) ≡ kept mask bits
unfolding bits_of_word
filter_word mask bits taken new k word_mask word gathered even mask_bit bit is before more =
    let at = 64 * k in
    let next : at + 64 ≡ 64 * (k + 1) = omega arith in
    let marks = take 64 (drop at mask) in
    let here = take 64 (drop at bits) in
    let marked : length marks ≡ length here = omega (arith, length-take 64 (drop at mask), length-drop at mask, length-take 64 (drop at bits), length-drop at bits) in
    let few : length marks ≤ 64 = omega (arith, length-take 64 (drop at mask)) in
    let f = bit_of_word word_mask in
    let g = bit_of_word word in
    let wide : length (tabulate f 64) ≡ 64 = length-map-range_with_len f 0 64 in
    let long : length (tabulate g 64) ≡ 64 = length-map-range_with_len g 0 64 in
    let rest = kept (drop (64 * (k + 1)) mask) (drop (64 * (k + 1)) bits) in
    let same : kept marks here ≡ kept (tabulate f 64) (tabulate g 64) = kept_padded marks here (tabulate f 64) (tabulate g 64) marked (omega arith) (omega arith)
    (λ i. elim (cases_lt i 64) [
      | inl low ↦ get_or-take 64 (drop at mask) i false low ∙ get_or-drop at mask i false ∙ sym (mask_bit i low) ∙ sym (get_or-map-range_with_len f 0 64 i i false low (omega arith))
      | inr high ↦ get_or_past marks i false (omega arith) ∙ sym (get_or_past (tabulate f 64) i false (omega arith))
    ])
    (λ i h. let low : i < 64 = omega arith in
    get_or-take 64 (drop at bits) i false low ∙ get_or-drop at bits i false ∙ sym (bit i low) ∙ sym (get_or-map-range_with_len g 0 64 i i false low (omega arith))) in
    let left : kept (drop 64 (drop at mask)) (drop 64 (drop at bits)) ≡ rest = ap (λ l. kept l (drop 64 (drop at bits))) (drop-drop 64 at mask ∙ ap (λ (m : ℕ). drop m mask) next) ∙ ap (λ l. kept (drop (64 * (k + 1)) mask) l) (drop-drop 64 at bits ∙ ap (λ (m : ℕ). drop m bits) next) in
    ap (λ l. l ++ rest) more ∙ append_assoc taken (tabulate (bit_of_word gathered) (count_ones word_mask)) rest
    ∙ ap (λ l. taken ++ l) (ap (λ l. l ++ rest) (is ∙ sym same) ∙ ap (λ l. kept marks here ++ l) (sym left) ∙ sym (kept_split 64 (drop at mask) (drop at bits))) ∙ before

-- the bits of all words are kept
pub filter_done : (mask bits taken : List Bool) (n : ℕ) → length mask ≤ n → taken ++ kept (drop n mask) (drop n bits) ≡ kept mask bits → kept mask bits ≡ taken
filter_done mask bits taken n past all = sym all ∙ ap (λ l. taken ++ l) (ap (λ l. kept l (drop n bits)) (drop_all n mask past)) ∙ append-nil taken
