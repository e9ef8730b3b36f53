-- A byte's remainder is read from a table.
use Rattle.std.proofs.Common.{◌≡◌, ℕ, zero, suc, ◌+◌, ◌*◌, ◌/◌, ◌%◌, ◌^◌, ◌<◌, ◌++◌, Bool, true, cond, eqb, List, [], ◌∷◌, length, take, get_or, refl, ap, sym, ◌∙◌, arith}
use Rattle.std.specs.Prelude.{◌&&◌, bit_and, bit_xor, fold}
use Rattle.std.proofs.lemmas.Bool.{and_parts, eqb-true}
use Rattle.std.proofs.lemmas.List.{take_more}
use Rattle.std.proofs.lemmas.List.Sums.{fold-append}
use Rattle.std.proofs.lemmas.Grind.{flat_map-append}
use Rattle.std.proofs.lemmas.Nat.{and_mask, mod_below, shr_below, xor_block, xor_comm, xor_mod, xor_shr}
use Rattle.std.specs.Int.Bits.{xor_assoc, xor_zero_l, xor_zero_r}
use Rattle.fl_file.specs.declared.checksum.TheConstants.{TABLE}
use Rattle.fl_file.specs.Crc32c.{bits_of, low_bits, polynomial, remainder_after, with_bit}

-- ---- several bits at once
-- so many bits that are 0
abbrev pub steps : ℕ → ℕ → ℕ
steps zero r = r
steps (suc k) r = steps k (with_bit r 0)

swapped : (p q c : ℕ) → bit_xor (bit_xor p q) c ≡ bit_xor (bit_xor p c) q
swapped p q c = xor_assoc p q c ∙ ap (bit_xor p) (xor_comm q c) ∙ sym (xor_assoc p c q)

mixed_cases : (x y p q : ℕ) → x < 2 → y < 2 → cond (eqb (bit_xor x y) 0) (bit_xor p q) (bit_xor (bit_xor p q) polynomial) ≡ bit_xor (cond (eqb x y) p (bit_xor p polynomial)) q
mixed_cases zero zero p q a b = refl
mixed_cases zero (suc zero) p q a b = swapped p q polynomial
mixed_cases (suc zero) zero p q a b = swapped p q polynomial
mixed_cases (suc zero) (suc zero) p q a b = refl
mixed_cases zero (suc (suc y)) p q a b = absurd (omega arith)
mixed_cases (suc zero) (suc (suc y)) p q a b = absurd (omega arith)
mixed_cases (suc (suc x)) y p q a b = absurd (omega arith)

-- the lowest bit of a number may be mixed in before its step
step_mixed : (r n : ℕ) → with_bit (bit_xor r n) 0 ≡ bit_xor (with_bit r (n % 2)) (n / 2)
step_mixed r n =
    let m = bit_xor r n in
    ap (λ x. cond (eqb x 0) (m / 2) (bit_xor (m / 2) polynomial)) (xor_mod r n 1)
    ∙ ap (λ h. cond (eqb (bit_xor (r % 2) (n % 2)) 0) h (bit_xor h polynomial)) (xor_shr r n 1)
    ∙ mixed_cases (r % 2) (n % 2) (r / 2) (n / 2) (mod_below r 2 (omega arith)) (mod_below n 2 (omega arith))

-- so may all of its bits
bits_mixed : (k r n : ℕ) → n < 2 ^ k → fold with_bit r (low_bits k n) ≡ steps k (bit_xor r n)
bits_mixed zero r zero small = sym (xor_zero_r r)
bits_mixed zero r (suc n) small = absurd (omega arith)
bits_mixed (suc k) r n small =
    let more : k + 1 ≡ suc k = omega arith in
    bits_mixed k (with_bit r (n % 2)) (n / 2) (shr_below n k 1 (rw more small)) ∙ ap (steps k) (sym (step_mixed r n))

-- bits above the steps only move down
halves : (h k : ℕ) → ((h * 2 ^ suc k) % 2 ≡ 0) × ((h * 2 ^ suc k) / 2 ≡ h * 2 ^ k)
halves h k =
    let twice : h * 2 ^ suc k ≡ h * 2 ^ k * 2 = grind arith in
    (omega (arith, twice), omega (arith, twice))

steps_high : (k r h : ℕ) → steps k (bit_xor r (h * 2 ^ k)) ≡ bit_xor (steps k r) h
steps_high zero r h = ap (bit_xor r) (omega arith)
steps_high (suc k) r h =
    let e = halves h k in
    ap (steps k) (step_mixed r (h * 2 ^ suc k) ∙ ap (λ b. bit_xor (with_bit r b) (h * 2 ^ suc k / 2)) e.0 ∙ ap (bit_xor (with_bit r 0)) e.1)
    ∙ steps_high k (with_bit r 0) h

parts_of : (h l : ℕ) → l < 2 ^ 8 → h * 2 ^ 8 + l ≡ bit_xor l (h * 2 ^ 8)
parts_of h l small =
    let e : bit_xor (0 * 2 ^ 8 + l) (h * 2 ^ 8 + 0) ≡ bit_xor 0 h * 2 ^ 8 + bit_xor l 0 = xor_block 8 0 h l 0 small (omega arith) in
    let low : 0 * 2 ^ 8 + l ≡ l = omega arith in
    let high : h * 2 ^ 8 + 0 ≡ h * 2 ^ 8 = omega arith in
    sym (ap (λ x. bit_xor x (h * 2 ^ 8)) (sym low) ∙ ap (bit_xor (0 * 2 ^ 8 + l)) (sym high) ∙ e ∙ ap (λ x. x * 2 ^ 8 + bit_xor l 0) (xor_zero_l h) ∙ ap (λ x. h * 2 ^ 8 + x) (xor_zero_r l))

-- eight steps are those of the low byte, and the other bits move down
steps_of : (x : ℕ) → steps 8 x ≡ bit_xor (steps 8 (x % 2 ^ 8)) (x / 2 ^ 8)
steps_of x =
    let split : x ≡ x / 2 ^ 8 * 2 ^ 8 + x % 2 ^ 8 = omega arith in
    ap (steps 8) (split ∙ parts_of (x / 2 ^ 8) (x % 2 ^ 8) (mod_below x (2 ^ 8) (omega arith))) ∙ steps_high 8 (x % 2 ^ 8) (x / 2 ^ 8)

-- ---- the table
-- entries from a place on are the steps of their places
abbrev entries_are : ℕ → List ℕ → Bool
entries_are i [] = true
entries_are i (x ∷ xs) = eqb x (steps 8 i) && entries_are (suc i) xs

entry_at : (i : ℕ) (xs : List ℕ) (k : ℕ) → entries_are i xs ≡ true → k < length xs → get_or xs k 0 ≡ steps 8 (k + i)
entry_at i [] k e h = absurd (omega arith)
entry_at i (x ∷ xs) zero e h =
    let here : 0 + i ≡ i = omega arith in
    eqb-true x (steps 8 i) (and_parts (eqb x (steps 8 i)) (entries_are (suc i) xs) e).0 ∙ ap (steps 8) (sym here)
entry_at i (x ∷ xs) (suc k) e h =
    let next : k + suc i ≡ suc k + i = omega arith in
    entry_at (suc i) xs k (and_parts (eqb x (steps 8 i)) (entries_are (suc i) xs) e).1 (omega arith) ∙ ap (steps 8) next

checked : entries_are 0 TABLE ≡ true
checked = refl

table_at : (k : ℕ) → k < 2 ^ 8 → get_or TABLE k 0 ≡ steps 8 k
table_at k h =
    let same : k + 0 ≡ k = omega arith in
    entry_at 0 TABLE k checked h ∙ ap (steps 8) same

-- ---- bytes
pub byte_by_table : (r b : ℕ) → b < 2 ^ 8 → bit_xor (get_or TABLE (bit_and (bit_xor r b) 255) 0) (bit_xor r b / 2 ^ 8) ≡ remainder_after r (b ∷ [])
unfolding remainder_after
byte_by_table r b small =
    let m = bit_xor r b in
    ap (λ k. bit_xor (get_or TABLE k 0) (m / 2 ^ 8)) (and_mask m 8)
    ∙ ap (λ t. bit_xor t (m / 2 ^ 8)) (table_at (m % 2 ^ 8) (mod_below m (2 ^ 8) (omega arith)))
    ∙ sym (steps_of m) ∙ sym (bits_mixed 8 r b small)

-- ---- the loop over bytes
pub remainder_more : (start : ℕ) (xs : List ℕ) (i b before after : ℕ) → i < length xs → b ≡ get_or xs i 0 → before ≡ remainder_after start (take i xs) → after ≡ remainder_after before (b ∷ []) → after ≡ remainder_after start (take (i + 1) xs)
unfolding remainder_after
remainder_more start xs i b before after lt is so_far next =
    let more : take (i + 1) xs ≡ take i xs ++ b ∷ [] = take_more xs i 0 lt ∙ ap (λ x. take i xs ++ x ∷ []) (sym is) in
    let parts : remainder_after start (take (i + 1) xs) ≡ remainder_after (remainder_after start (take i xs)) (b ∷ []) =
    ap (λ l. fold with_bit start (bits_of l)) more ∙ ap (fold with_bit start) (flat_map-append (low_bits 8) (take i xs) (b ∷ [])) ∙ fold-append with_bit start (bits_of (take i xs)) (bits_of (b ∷ [])) in
    next ∙ ap (λ r. remainder_after r (b ∷ [])) so_far ∙ sym parts
