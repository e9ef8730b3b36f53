-- Digits that are read by words.
use Rattle.std.proofs.Common.{◌≡◌, ◌≢◌, ◌&&◌, leb, pos_of_ne-zero, subst, Fits, w8, ◌<◌, ◌≤◌, ◌+◌, ◌-◌, ◌*◌, ◌/◌, ◌%◌, ◌^◌, ℕ, zero, suc, List, [], ◌∷◌, ◌++◌, length, take, drop, get_or, map, replicate, Bool, true, false, not, cond, refl, sym, ap, ap₂, ◌∙◌, arith, add-one, pow-suc, mod-eq_of_lt}
use lib.Count.{count_trailing_zeros}
use Rattle.std.specs.Prelude.{bit_and}
use Rattle.std.specs.Char.{digit_value, is_ascii_digit}
use Rattle.std.specs.Int.{byte_worth, from_le_bytes, sum_through, w128}
use Rattle.std.specs.Str.{all_ascii_digits}
use Rattle.std.specs.Str.Parse.{digits_value, digits_value_after}
use Rattle.std.specs.List.{AllByRecursion, prefix_len}
use Rattle.std.specs.Simd.Lanes.{Each1, fold_l, mask_l, number_l, top, zip2}
use Rattle.std.proofs.lemmas.Bool.{lt-ltb}
use Rattle.std.proofs.lemmas.Bool.Decides.{nat_tests}
use Rattle.std.proofs.lemmas.List.{get_or-take, length-append, length-drop, length-take-le, take-append-drop, take-take, take_all, take_more}
use Rattle.std.proofs.lemmas.Simd.{length-replicate, leading_from_mask_l, trailing_mask_l}
use Rattle.std.proofs.lemmas.Nat.{and_block, and_le_r, and_mask, mod_low, pow-add, shl_below, shr_high}
use Rattle.fl_column.proofs.ListLaws.{and_first, and_second}
use Rattle.flcol_engine.proofs.TextLemmas.{digit_range, digit_value_is, line_ends}
use Rattle.flcol_engine.specs.Digits.{BeginsWithNumber, IsDigitByte, number_in_halves}

-- ---- `&` by blocks
turned : (p a n : ℕ) → a + p * n ≡ n * p + a
turned p a n = omega arith

-- numbers of blocks of k bits
and_blocks : (k : ℕ) (xs ys : List ℕ) → length xs ≡ length ys → AllByRecursion (λ x. x < 2 ^ k) xs → AllByRecursion (λ y. y < 2 ^ k) ys → bit_and (number_l (2 ^ k) xs) (number_l (2 ^ k) ys) ≡ number_l (2 ^ k) (zip2 bit_and xs ys)
and_blocks k [] [] same low below = refl
and_blocks k [] (y ∷ ys) same low below = absurd (omega arith)
and_blocks k (x ∷ xs) [] same low below = absurd (omega arith)
and_blocks k (x ∷ xs) (y ∷ ys) same low below =
    let p = 2 ^ k in
    let rest = and_blocks k xs ys (omega arith) low.1 below.1 in
    ap₂ bit_and (turned p x (number_l p xs)) (turned p y (number_l p ys)) ∙ (and_block k (number_l p xs) (number_l p ys) x y low.0 below.0 ∙ (ap (λ n. n * p + bit_and x y) rest ∙ sym (turned p (bit_and x y) (number_l p (zip2 bit_and xs ys)))))

kept : (n k : ℕ) → n < 2 ^ k → bit_and n (2 ^ k - 1) ≡ n
kept n k h = and_mask n k ∙ mod-eq_of_lt h

gone : (n : ℕ) → bit_and n 0 ≡ 0
gone n = let none = and_le_r n 0 in omega arith

-- the lower halves of bytes
lower_halves : (bytes : List ℕ) → AllByRecursion IsDigitByte bytes → zip2 bit_and bytes (replicate (length bytes) 15) ≡ map (λ b. b % 16) bytes
lower_halves [] each = refl
lower_halves (b ∷ bytes) each = ap₂ (λ x xs. x ∷ xs) (and_mask b 4) (lower_halves bytes each.1)

-- ---- eight digits
-- a fact of a list of eight
of_eight : (P : List ℕ → Type 0) → ((a b c d e f g h : ℕ) → P (a ∷ b ∷ c ∷ d ∷ e ∷ f ∷ g ∷ h ∷ [])) → (xs : List ℕ) → length xs ≡ 8 → P xs
of_eight P all [] len = absurd (omega arith)
of_eight P all (a ∷ []) len = absurd (omega arith)
of_eight P all (a ∷ b ∷ []) len = absurd (omega arith)
of_eight P all (a ∷ b ∷ c ∷ []) len = absurd (omega arith)
of_eight P all (a ∷ b ∷ c ∷ d ∷ []) len = absurd (omega arith)
of_eight P all (a ∷ b ∷ c ∷ d ∷ e ∷ []) len = absurd (omega arith)
of_eight P all (a ∷ b ∷ c ∷ d ∷ e ∷ f ∷ []) len = absurd (omega arith)
of_eight P all (a ∷ b ∷ c ∷ d ∷ e ∷ f ∷ g ∷ []) len = absurd (omega arith)
of_eight P all (a ∷ b ∷ c ∷ d ∷ e ∷ f ∷ g ∷ h ∷ []) len = all a b c d e f g h
of_eight P all (a ∷ b ∷ c ∷ d ∷ e ∷ f ∷ g ∷ h ∷ i ∷ xs) len = absurd (omega arith)

-- a word times a number, and the word without its first block, lose nothing where they are small
whole_sum : (x m q s : ℕ) → x * m + q < 2 ^ 64 → s ≡ x * m + q → (x * m % 2 ^ 64 + q) % 2 ^ 64 ≡ s
whole_sum x m q s small is =
    let first : x * m % 2 ^ 64 ≡ x * m = mod-eq_of_lt (omega arith) in
    rw first (mod-eq_of_lt small ∙ sym is)

-- digits by twos
twos_are : (a b c d e f g h : ℕ) → a < 10 → b < 10 → c < 10 → d < 10 → e < 10 → f < 10 → g < 10 → h < 10 → let x = number_l 256 (a ∷ b ∷ c ∷ d ∷ e ∷ f ∷ g ∷ h ∷ []) in
    bit_and ((x * 10 % 2 ^ 64 + x / 256) % 2 ^ 64) 71777214294589695 ≡ number_l 65536 ((a * 10 + b) ∷ (c * 10 + d) ∷ (e * 10 + f) ∷ (g * 10 + h) ∷ [])
twos_are a b c d e f g h pa pb pc pd pe pf pg ph =
    let rest : number_l 256 (a ∷ b ∷ c ∷ d ∷ e ∷ f ∷ g ∷ h ∷ []) / 256 ≡ number_l 256 (b ∷ c ∷ d ∷ e ∷ f ∷ g ∷ h ∷ []) = omega arith in
    let sum = whole_sum (number_l 256 (a ∷ b ∷ c ∷ d ∷ e ∷ f ∷ g ∷ h ∷ [])) 10 (number_l 256 (b ∷ c ∷ d ∷ e ∷ f ∷ g ∷ h ∷ []))
    (number_l 256 ((a * 10 + b) ∷ (b * 10 + c) ∷ (c * 10 + d) ∷ (d * 10 + e) ∷ (e * 10 + f) ∷ (f * 10 + g) ∷ (g * 10 + h) ∷ (h * 10) ∷ [])) (omega arith) (omega arith) in
    let blocks = and_blocks 8 ((a * 10 + b) ∷ (b * 10 + c) ∷ (c * 10 + d) ∷ (d * 10 + e) ∷ (e * 10 + f) ∷ (f * 10 + g) ∷ (g * 10 + h) ∷ (h * 10) ∷ []) (255 ∷ 0 ∷ 255 ∷ 0 ∷ 255 ∷ 0 ∷ 255 ∷ 0 ∷ []) refl
    (omega arith, (omega arith, (omega arith, (omega arith, (omega arith, (omega arith, (omega arith, (omega arith, tt)))))))) (omega arith, (omega arith, (omega arith, (omega arith, (omega arith, (omega arith, (omega arith, (omega arith, tt)))))))) in
    let low₁ = kept (a * 10 + b) 8 (omega arith) in
    let low₂ = kept (c * 10 + d) 8 (omega arith) in
    let low₃ = kept (e * 10 + f) 8 (omega arith) in
    let low₄ = kept (g * 10 + h) 8 (omega arith) in
    let none₁ = gone (b * 10 + c) in
    let none₂ = gone (d * 10 + e) in
    let none₃ = gone (f * 10 + g) in
    let none₄ = gone (h * 10) in
    rw (rest, sum) (blocks ∙ rw (low₁, low₂, low₃, low₄, none₁, none₂, none₃, none₄) (omega arith))

-- digits by fours
fours_are : (p q r s : ℕ) → p < 100 → q < 100 → r < 100 → s < 100 → let x = number_l 65536 (p ∷ q ∷ r ∷ s ∷ []) in
    bit_and ((x * 100 % 2 ^ 64 + x / 65536) % 2 ^ 64) 281470681808895 ≡ number_l 4294967296 ((p * 100 + q) ∷ (r * 100 + s) ∷ [])
fours_are p q r s pp pq pr ps =
    let rest : number_l 65536 (p ∷ q ∷ r ∷ s ∷ []) / 65536 ≡ number_l 65536 (q ∷ r ∷ s ∷ []) = omega arith in
    let sum = whole_sum (number_l 65536 (p ∷ q ∷ r ∷ s ∷ [])) 100 (number_l 65536 (q ∷ r ∷ s ∷ [])) (number_l 65536 ((p * 100 + q) ∷ (q * 100 + r) ∷ (r * 100 + s) ∷ (s * 100) ∷ [])) (omega arith) (omega arith) in
    let blocks = and_blocks 16 ((p * 100 + q) ∷ (q * 100 + r) ∷ (r * 100 + s) ∷ (s * 100) ∷ []) (65535 ∷ 0 ∷ 65535 ∷ 0 ∷ []) refl (omega arith, (omega arith, (omega arith, (omega arith, tt)))) (omega arith, (omega arith, (omega arith, (omega arith, tt)))) in
    let low₁ = kept (p * 100 + q) 16 (omega arith) in
    let low₂ = kept (r * 100 + s) 16 (omega arith) in
    let none₁ = gone (q * 100 + r) in
    let none₂ = gone (s * 100) in
    rw (rest, sum) (blocks ∙ rw (low₁, low₂, none₁, none₂) (omega arith))

-- all eight
eight_are : (u v : ℕ) → u < 10000 → v < 10000 → let x = number_l 4294967296 (u ∷ v ∷ []) in bit_and ((x * 10000 % 2 ^ 64 + x / 4294967296) % 2 ^ 64) 4294967295 ≡ u * 10000 + v
eight_are u v pu pv =
    let rest : number_l 4294967296 (u ∷ v ∷ []) / 4294967296 ≡ v = omega arith in
    let sum = whole_sum (number_l 4294967296 (u ∷ v ∷ [])) 10000 v (number_l 4294967296 ((u * 10000 + v) ∷ (v * 10000) ∷ [])) (omega arith) (omega arith) in
    rw (rest, sum) (and_mask (number_l 4294967296 ((u * 10000 + v) ∷ (v * 10000) ∷ [])) 32 ∙ omega arith)

-- the number of eight bytes' lower halves
abbrev pub ReadsEight : ℕ → List ℕ → Type 0
ReadsEight word bytes = AllByRecursion IsDigitByte bytes → word ≡ number_l 256 bytes →
    let ones = bit_and word 1085102592571150095 in
    let twos = bit_and ((ones * 10 % 2 ^ 64 + ones / 256) % 2 ^ 64) 71777214294589695 in
    let fours = bit_and ((twos * 100 % 2 ^ 64 + twos / 65536) % 2 ^ 64) 281470681808895 in
    bit_and ((fours * 10000 % 2 ^ 64 + fours / 4294967296) % 2 ^ 64) 4294967295 ≡ number_in_halves bytes

pub eight_read : (word : ℕ) (bytes : List ℕ) → length bytes ≡ 8 → ReadsEight word bytes
eight_read word = of_eight (ReadsEight word) read
  where
    bytes_below : (bytes : List ℕ) → AllByRecursion IsDigitByte bytes → AllByRecursion (λ b. b < 2 ^ 8) bytes
    bytes_below [] each = tt
    bytes_below (b ∷ bytes) each = (each.0.byte, bytes_below bytes each.1)

    fifteens : (n : ℕ) → AllByRecursion (λ m. m < 2 ^ 8) (replicate n 15)
    fifteens zero = tt
    fifteens (suc n) = (omega arith, fifteens n)

    read : (a b c d e f g h : ℕ) → ReadsEight word (a ∷ b ∷ c ∷ d ∷ e ∷ f ∷ g ∷ h ∷ [])
    read a b c d e f g h = λ each is.
        let bytes = a ∷ b ∷ c ∷ d ∷ e ∷ f ∷ g ∷ h ∷ [] in
        let ones : bit_and word 1085102592571150095 ≡ number_l 256 (map (λ b. b % 16) bytes) = ap (λ w. bit_and w 1085102592571150095) is ∙ (and_blocks 8 bytes (replicate 8 15) refl (bytes_below bytes each) (fifteens 8) ∙ ap (number_l 256) (lower_halves bytes each)) in
        let pa = each.0.digit in
        let pb = each.1.0.digit in
        let pc = each.1.1.0.digit in
        let pd = each.1.1.1.0.digit in
        let pe = each.1.1.1.1.0.digit in
        let pf = each.1.1.1.1.1.0.digit in
        let pg = each.1.1.1.1.1.1.0.digit in
        let ph = each.1.1.1.1.1.1.1.0.digit in
        let twos = twos_are (a % 16) (b % 16) (c % 16) (d % 16) (e % 16) (f % 16) (g % 16) (h % 16) pa pb pc pd pe pf pg ph in
        let fours = fours_are (a % 16 * 10 + b % 16) (c % 16 * 10 + d % 16) (e % 16 * 10 + f % 16) (g % 16 * 10 + h % 16) (omega arith) (omega arith) (omega arith) (omega arith) in
        let eight = eight_are ((a % 16 * 10 + b % 16) * 100 + (c % 16 * 10 + d % 16)) ((e % 16 * 10 + f % 16) * 100 + (g % 16 * 10 + h % 16)) (omega arith) (omega arith) in
        rw (ones, twos, fours) (eight ∙ omega arith)

-- ---- a run of digits
-- how many come first is no more than there are
pub run_within : (p : ℕ → Bool) (xs : List ℕ) → prefix_len p xs ≤ length xs
run_within p [] = omega arith
run_within p (x ∷ xs) = at_test (p x) (run_within p xs)
  where
    at_test : (b : Bool) → prefix_len p xs ≤ length xs → cond b (1 + prefix_len p xs) 0 ≤ suc (length xs)
    at_test true h = omega arith
    at_test false h = omega arith

-- each of them passes
pub run_passes : (p : ℕ → Bool) (xs : List ℕ) (i : ℕ) → i < prefix_len p xs → p (get_or xs i 0) ≡ true
run_passes p [] i h = absurd (omega arith)
run_passes p (x ∷ xs) i h = at_test (p x) refl (λ i h. run_passes p xs i h) i h
  where
    at_test : (b : Bool) → p x ≡ b → ((i : ℕ) → i < prefix_len p xs → p (get_or xs i 0) ≡ true) → (i : ℕ) → i < cond b (1 + prefix_len p xs) 0 → p (get_or (x ∷ xs) i 0) ≡ true
    at_test true e rest zero h = e
    at_test true e rest (suc i) h = rest i (omega arith)
    at_test false e rest i h = absurd (omega arith)

-- so they are digits
pub run_of_digits : (k : ℕ) (xs : List ℕ) → k ≤ prefix_len is_ascii_digit xs → all_ascii_digits (take k xs) ≡ true
run_of_digits zero xs h = refl
run_of_digits (suc k) [] h = refl
run_of_digits (suc k) (x ∷ xs) h = at_test (is_ascii_digit x) (λ h. run_of_digits k xs h) h
  where
    at_test : (b : Bool) → (k ≤ prefix_len is_ascii_digit xs → all_ascii_digits (take k xs) ≡ true) → suc k ≤ cond b (1 + prefix_len is_ascii_digit xs) 0 → (b && all_ascii_digits (take k xs)) ≡ true
    at_test true rest h = rest (omega arith)
    at_test false rest h = absurd (omega arith)

-- the bytes that aren't digits, lane by lane
pub other_lanes : (n : ℕ) (bytes : List ℕ) → length bytes ≡ n → Each1 (Fits w8) bytes
    → map (top 7) (zip2 (λ a b. cond (leb a b) 255 0) (replicate n 10) (zip2 (λ a b. (a + (256 - b)) % 256) bytes (replicate n 48))) ≡ map (λ b. not (is_ascii_digit b)) bytes
other_lanes zero [] len each = refl
other_lanes zero (b ∷ bytes) len each = absurd (omega arith)
other_lanes (suc n) [] len each = absurd (omega arith)
other_lanes (suc n) (b ∷ bytes) len each = ap₂ (λ x xs. x ∷ xs) (lane b each.0.fits) (other_lanes n bytes (omega arith) each.1)
  where
    lane : (b : ℕ) → b < 256 → top 7 (cond (leb 10 ((b + (256 - 48)) % 256)) 255 0) ≡ not (is_ascii_digit b)
    lane b small = at_tests (leb 10 ((b + (256 - 48)) % 256)) (is_ascii_digit b) (λ e. grind (arith, nat_tests)) (λ e. grind (arith, nat_tests))
      where
        at_tests : (p q : Bool) → (p ≡ true → q ≡ false) → (p ≡ false → q ≡ true) → top 7 (cond p 255 0) ≡ not q
        at_tests true q on off = rw (on refl) refl
        at_tests false q on off = rw (off refl) refl

not_other : (p : ℕ → Bool) (xs : List ℕ) → prefix_len (λ x. not (not (p x))) xs ≡ prefix_len p xs
not_other p [] = refl
not_other p (x ∷ xs) = at_test (p x) (not_other p xs)
  where
    at_test : (b : Bool) → prefix_len (λ x. not (not (p x))) xs ≡ prefix_len p xs → cond (not (not b)) (1 + prefix_len (λ x. not (not (p x))) xs) 0 ≡ cond b (1 + prefix_len p xs) 0
    at_test true h = ap (λ n. 1 + n) h
    at_test false h = refl

-- no other byte
pub all_digits : (n mask : ℕ) (bytes : List ℕ) → length bytes ≡ n → mask ≡ mask_l (map (λ b. not (is_ascii_digit b)) bytes) → mask ≡ 0 → n ≡ prefix_len is_ascii_digit bytes
all_digits n mask bytes len is none = sym (sym (not_other is_ascii_digit bytes) ∙ (leading_from_mask_l (λ b. not (is_ascii_digit b)) bytes (sym is ∙ none) ∙ len))

-- the first other byte
pub first_other : (mask : ℕ) (bytes : List ℕ) → length bytes ≤ 64 → mask ≡ mask_l (map (λ b. not (is_ascii_digit b)) bytes) → mask ≢ 0 → count_trailing_zeros 64 mask ≡ prefix_len is_ascii_digit bytes
first_other mask bytes len is some =
    let above : 0 < mask_l (map (λ b. not (is_ascii_digit b)) bytes) = rw (← is) (pos_of_ne-zero some) in
    rw is (trailing_mask_l (λ b. not (is_ascii_digit b)) 64 bytes len above ∙ not_other is_ascii_digit bytes)

-- ---- sixteen bytes as a word
pow_byte : (n : ℕ) → 2 ^ (8 * suc n) ≡ 256 * 2 ^ (8 * n)
pow_byte n = let e : 8 * suc n ≡ 8 + 8 * n = omega arith in rw (e, pow-add 2 8 (8 * n)) refl

number-append : (xs ys : List ℕ) → number_l 256 (xs ++ ys) ≡ number_l 256 xs + 2 ^ (8 * length xs) * number_l 256 ys
number-append [] ys = omega arith
number-append (x ∷ xs) ys =
    let rest = number-append xs ys in
    rw (rest, pow_byte (length xs)) (omega arith)

number_small : (xs : List ℕ) → ((i : ℕ) → get_or xs i 0 < 256) → number_l 256 xs < 2 ^ (8 * length xs)
number_small [] below = omega arith
number_small (x ∷ xs) below =
    let rest = number_small xs (λ i. below (suc i)) in
    let here : x < 256 = below 0 in
    rw (pow_byte (length xs)) (omega arith)

zeros_first : (m : ℕ) (ys : List ℕ) → number_l 256 (replicate m 0 ++ ys) ≡ 2 ^ (8 * m) * number_l 256 ys
zeros_first zero ys = omega arith
zeros_first (suc m) ys =
    let rest = zeros_first m ys in
    rw (rest, pow_byte m) (omega arith)

bytes_of_part : (k : ℕ) (xs : List ℕ) → ((i : ℕ) → get_or xs i 0 < 256) → (i : ℕ) → get_or (take k xs) i 0 < 256
bytes_of_part zero xs below i = omega arith
bytes_of_part (suc k) [] below i = omega arith
bytes_of_part (suc k) (x ∷ xs) below zero = below 0
bytes_of_part (suc k) (x ∷ xs) below (suc i) = bytes_of_part k xs (λ i. below (suc i)) i

-- the first k of sixteen bytes, moved to the end
pub moved : List ℕ → ℕ → List ℕ
moved bytes k = replicate (16 - k) 0 ++ take k bytes

shifted : (bytes : List ℕ) (k : ℕ) → length bytes ≡ 16 → ((i : ℕ) → get_or bytes i 0 < 256) → k ≤ 16 → number_l 256 bytes * 2 ^ (128 - 8 * k) % 2 ^ 128 ≡ number_l 256 (moved bytes k)
unfolding moved
shifted bytes k len below h =
    let first = number_l 256 (take k bytes) in
    let rest = number_l 256 (drop k bytes) in
    let part = length-take-le k bytes (omega (arith, len)) in
    let split : number_l 256 bytes ≡ first + 2 ^ (8 * k) * rest = ap (number_l 256) (sym (take-append-drop k bytes)) ∙ (number-append (take k bytes) (drop k bytes) ∙ ap (λ n. first + 2 ^ (8 * n) * rest) part) in
    let whole : 8 * k + (128 - 8 * k) ≡ 128 = omega arith in
    let pow : 2 ^ (8 * k) * 2 ^ (128 - 8 * k) ≡ 2 ^ 128 = sym (pow-add 2 (8 * k) (128 - 8 * k)) ∙ ap (λ n. 2 ^ n) whole in
    let high = ap (λ n. n * rest) pow in
    let sum : number_l 256 bytes * 2 ^ (128 - 8 * k) ≡ rest * 2 ^ 128 + first * 2 ^ (128 - 8 * k) = rw split (omega (arith, high)) in
    let few : first < 2 ^ (8 * k) = subst (λ n. first < 2 ^ (8 * n)) part (number_small (take k bytes) (bytes_of_part k bytes below)) in
    let small : first * 2 ^ (128 - 8 * k) < 2 ^ 128 = subst (λ n. first * 2 ^ (128 - 8 * k) < 2 ^ n) whole (shl_below first (8 * k) (128 - 8 * k) few) in
    let places : 8 * (16 - k) ≡ 128 - 8 * k = omega arith in
    ap (λ n. n % 2 ^ 128) sum ∙ (mod_low rest 128 (first * 2 ^ (128 - 8 * k)) small ∙ rw (zeros_first (16 - k) (take k bytes), places) (omega arith))

pub length-moved : (bytes : List ℕ) (k : ℕ) → length bytes ≡ 16 → k ≤ 16 → length (moved bytes k) ≡ 16
unfolding moved
length-moved bytes k len h = let part = length-take-le k bytes (omega (arith, len)) in rw (length-append, length-replicate, part) (omega arith)

-- the first eight bytes, and the others
pub lower_word : (xs : List ℕ) (n : ℕ) → length xs ≡ 16 → ((i : ℕ) → get_or xs i 0 < 256) → n ≡ 2 ^ 64 - 1 → bit_and (number_l 256 xs) n ≡ number_l 256 (take 8 xs)
lower_word xs n len below is =
    let part = length-take-le 8 xs (omega (arith, len)) in
    let split : number_l 256 xs ≡ number_l 256 (take 8 xs) + 2 ^ (8 * 8) * number_l 256 (drop 8 xs) = ap (number_l 256) (sym (take-append-drop 8 xs)) ∙ (number-append (take 8 xs) (drop 8 xs) ∙ ap (λ n. number_l 256 (take 8 xs) + 2 ^ (8 * n) * number_l 256 (drop 8 xs)) part) in
    let few : number_l 256 (take 8 xs) < 2 ^ 64 = subst (λ n. number_l 256 (take 8 xs) < 2 ^ (8 * n)) part (number_small (take 8 xs) (bytes_of_part 8 xs below)) in
    ap (bit_and (number_l 256 xs)) is ∙ (and_mask (number_l 256 xs) 64 ∙ (ap (λ n. n % 2 ^ 64) (split ∙ turned (2 ^ 64) (number_l 256 (take 8 xs)) (number_l 256 (drop 8 xs))) ∙ mod_low (number_l 256 (drop 8 xs)) 64 (number_l 256 (take 8 xs)) few))

pub upper_word : (xs : List ℕ) → length xs ≡ 16 → ((i : ℕ) → get_or xs i 0 < 256) → number_l 256 xs / 2 ^ 64 ≡ number_l 256 (drop 8 xs)
upper_word xs len below =
    let part = length-take-le 8 xs (omega (arith, len)) in
    let split : number_l 256 xs ≡ number_l 256 (take 8 xs) + 2 ^ (8 * 8) * number_l 256 (drop 8 xs) = ap (number_l 256) (sym (take-append-drop 8 xs)) ∙ (number-append (take 8 xs) (drop 8 xs) ∙ ap (λ n. number_l 256 (take 8 xs) + 2 ^ (8 * n) * number_l 256 (drop 8 xs)) part) in
    let few : number_l 256 (take 8 xs) < 2 ^ 64 = subst (λ n. number_l 256 (take 8 xs) < 2 ^ (8 * n)) part (number_small (take 8 xs) (bytes_of_part 8 xs below)) in
    ap (λ n. n / 2 ^ 64) (split ∙ turned (2 ^ 64) (number_l 256 (take 8 xs)) (number_l 256 (drop 8 xs))) ∙ shr_high (number_l 256 (drop 8 xs)) 64 (number_l 256 (take 8 xs)) few

-- bytes as std counts them
bytes_through : (bytes : List ℕ) (n : ℕ) → n < length bytes → sum_through (λ i. byte_worth i (get_or bytes i 0)) n ≡ number_l 256 (take (n + 1) bytes)
bytes_through [] zero h = absurd (omega arith)
bytes_through (b ∷ bytes) zero h = omega arith
bytes_through bytes (suc n) h =
    let before = bytes_through bytes n (omega arith) in
    let part = length-take-le (n + 1) bytes (omega arith) in
    let more : take (suc n + 1) bytes ≡ take (n + 1) bytes ++ get_or bytes (suc n) 0 ∷ [] = rw (← add-one n) (take_more bytes (n + 1) 0 (omega arith)) in
    let power = byte_power (suc n) in
    let place = ap (λ k. 2 ^ (8 * k)) (add-one n) in
    rw (more, number-append, part, before, power, place) (omega arith)
  where
    byte_power : (n : ℕ) → 256 ^ n ≡ 2 ^ (8 * n)
    byte_power zero = refl
    byte_power (suc n) = let rest = byte_power n in rw (pow_byte n, pow-suc, rest) (omega arith)

pub word_of_bytes : (bytes : List ℕ) → length bytes ≡ 16 → from_le_bytes w128 bytes ≡ number_l 256 bytes
word_of_bytes bytes len = bytes_through bytes 15 (omega (arith, len)) ∙ ap (number_l 256) (take_all 16 bytes (omega (arith, len)))

-- ---- the digits' number
fold-append : (n : ℕ) (xs ys : List ℕ) → fold_l (λ n b. n * 10 + b % 16) n (xs ++ ys) ≡ fold_l (λ n b. n * 10 + b % 16) (fold_l (λ n b. n * 10 + b % 16) n xs) ys
fold-append n [] ys = refl
fold-append n (x ∷ xs) ys = fold-append (n * 10 + x % 16) xs ys

fold_from : (n : ℕ) (ys : List ℕ) → fold_l (λ n b. n * 10 + b % 16) n ys ≡ n * 10 ^ length ys + number_in_halves ys
fold_from n [] = omega arith
fold_from n (y ∷ ys) =
    let more = fold_from (n * 10 + y % 16) ys in
    let first = fold_from (0 * 10 + y % 16) ys in
    let power : 10 ^ suc (length ys) ≡ 10 ^ length ys * 10 = pow-suc 10 (length ys) in
    let high = ap (λ p. n * p) power in
    rw (more, first) (omega (arith, high))

-- eight digits and eight more
two_words : (xs : List ℕ) → length xs ≡ 16 → number_in_halves (take 8 xs) * 100000000 + number_in_halves (drop 8 xs) ≡ number_in_halves xs
two_words xs len =
    let rest : length (drop 8 xs) ≡ 8 = length-drop 8 xs ∙ omega (arith, len) in
    sym (ap (fold_l (λ n b. n * 10 + b % 16) 0) (sym (take-append-drop 8 xs)) ∙ (fold-append 0 (take 8 xs) (drop 8 xs) ∙ (fold_from (number_in_halves (take 8 xs)) (drop 8 xs) ∙ ap (λ n. number_in_halves (take 8 xs) * 10 ^ n + number_in_halves (drop 8 xs)) rest)))

zeros_skipped : (m : ℕ) (ys : List ℕ) → number_in_halves (replicate m 0 ++ ys) ≡ number_in_halves ys
zeros_skipped zero ys = refl
zeros_skipped (suc m) ys = zeros_skipped m ys

digits_in_halves : (n : ℕ) (ds : List ℕ) → all_ascii_digits ds ≡ true → fold_l (λ n b. n * 10 + b % 16) n ds ≡ digits_value_after 10 n ds
digits_in_halves n [] all = refl
digits_in_halves n (d ∷ ds) all =
    let here = and_first (is_ascii_digit d) (all_ascii_digits ds) all in
    let range = digit_range d here in
    let value = digit_value_is d range.0 range.1 in
    let same : d % 16 ≡ digit_value d = omega (arith, range.0, range.1, value) in
    rw same (digits_in_halves (n * 10 + digit_value d) ds (and_second (is_ascii_digit d) (all_ascii_digits ds) all))

-- ---- digits in the lower halves of bytes
digit_bytes : (m : ℕ) (ds : List ℕ) → all_ascii_digits ds ≡ true → AllByRecursion IsDigitByte (replicate m 0 ++ ds)
digit_bytes zero [] all = tt
digit_bytes zero (d ∷ ds) all =
    let range = digit_range d (and_first (is_ascii_digit d) (all_ascii_digits ds) all) in
    (record { byte = omega (arith, range.0, range.1); digit = omega (arith, range.0, range.1) }, digit_bytes zero ds (and_second (is_ascii_digit d) (all_ascii_digits ds) all))
digit_bytes (suc m) ds all = (record { byte = omega arith; digit = omega arith }, digit_bytes m ds all)

all_of_first : (P : ℕ → Type 0) (k : ℕ) (xs : List ℕ) → AllByRecursion P xs → AllByRecursion P (take k xs)
all_of_first P zero xs all = tt
all_of_first P (suc k) [] all = tt
all_of_first P (suc k) (x ∷ xs) all = (all.0, all_of_first P k xs all.1)

all_of_rest : (P : ℕ → Type 0) (k : ℕ) (xs : List ℕ) → AllByRecursion P xs → AllByRecursion P (drop k xs)
all_of_rest P zero xs all = all
all_of_rest P (suc k) [] all = tt
all_of_rest P (suc k) (x ∷ xs) all = all_of_rest P k xs all.1

bytes_small : (xs : List ℕ) → AllByRecursion IsDigitByte xs → (i : ℕ) → get_or xs i 0 < 256
bytes_small [] all i = omega arith
bytes_small (x ∷ xs) all zero = all.0.byte
bytes_small (x ∷ xs) all (suc i) = bytes_small xs all.1 i

-- the first k bytes' number, by two words
pub number_by_words : (bytes : List ℕ) (k word mask upper lower : ℕ) → length bytes ≡ 16 → ((i : ℕ) → get_or bytes i 0 < 256) → k ≤ prefix_len is_ascii_digit bytes → word ≡ from_le_bytes w128 bytes → mask ≡ 2 ^ 64 - 1
    → ((ds : List ℕ) → length ds ≡ 8 → AllByRecursion IsDigitByte ds → bit_and (word * 2 ^ (128 - 8 * k) % 2 ^ 128) mask ≡ number_l 256 ds → upper ≡ number_in_halves ds)
    → ((ds : List ℕ) → length ds ≡ 8 → AllByRecursion IsDigitByte ds → word * 2 ^ (128 - 8 * k) % 2 ^ 128 / 2 ^ 64 ≡ number_l 256 ds → lower ≡ number_in_halves ds)
    → upper * 100000000 + lower ≡ digits_value 10 (take k bytes)
unfolding moved
number_by_words bytes k word mask upper lower len below run is all first second =
    let within = run_within is_ascii_digit bytes in
    let few : k ≤ 16 = omega (arith, within, run, len) in
    let digits = run_of_digits k bytes run in
    let xs = moved bytes k in
    let len₁₆ = length-moved bytes k len few in
    let each : AllByRecursion IsDigitByte xs = digit_bytes (16 - k) (take k bytes) digits in
    let small = bytes_small xs each in
    let whole : word * 2 ^ (128 - 8 * k) % 2 ^ 128 ≡ number_l 256 xs = ap (λ w. w * 2 ^ (128 - 8 * k) % 2 ^ 128) (is ∙ word_of_bytes bytes len) ∙ shifted bytes k len below few in
    let one = first (take 8 xs) (length-take-le 8 xs (omega (arith, len₁₆))) (all_of_first IsDigitByte 8 xs each) (ap (λ w. bit_and w mask) whole ∙ lower_word xs mask len₁₆ small all) in
    let two = second (drop 8 xs) (length-drop 8 xs ∙ omega (arith, len₁₆)) (all_of_rest IsDigitByte 8 xs each) (ap (λ w. w / 2 ^ 64) whole ∙ upper_word xs len₁₆ small) in
    ap₂ (λ a b. a * 100000000 + b) one two ∙ (two_words xs len₁₆ ∙ (zeros_skipped (16 - k) (take k bytes) ∙ digits_in_halves 0 (take k bytes) digits))

-- ---- the first line
-- the first sixteen bytes hold digits and a line feed
pub begins : (text bytes : List ℕ) (count n : ℕ) → 16 ≤ length text → bytes ≡ take 16 text → count ≡ prefix_len is_ascii_digit bytes → count ≢ 0 → count < 16 → get_or bytes count 0 ≡ 10 → n ≡ digits_value 10 (take count bytes) → BeginsWithNumber text n count
begins text bytes count n room is run some few end number =
    let same : take count bytes ≡ take count text = ap (take count) is ∙ take-take count 16 text (omega arith) in
    let digits : all_ascii_digits (take count text) ≡ true = ap all_ascii_digits (sym same) ∙ run_of_digits count bytes (omega (arith, run)) in
    let long : 0 < length (take count text) = let part = length-take-le count text (omega (arith, room)) in omega (arith, part, pos_of_ne-zero some) in
    let byte : (i : ℕ) → i < 16 → get_or text i 0 ≡ get_or bytes i 0 = λ i h. sym (ap (λ xs. get_or xs i 0) is ∙ get_or-take 16 text i 0 h) in
    let other : (i : ℕ) → i < count → get_or text i 0 ≢ 10 = λ i h e.
    let digit = run_passes is_ascii_digit bytes i (omega (arith, run)) in
    let range = digit_range (get_or bytes i 0) digit in
    let here = byte i (omega arith) in
    omega (arith, range.0, here, e) in
    record {
      within = omega (arith, room);
      number = rw (lt-ltb 0 (length (take count text)) long, digits, number, same) refl;
      line = line_ends text count (omega (arith, room)) other (byte count few ∙ end);
    }
