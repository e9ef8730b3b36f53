-- The bytes of leaves are read as they were written.
use Rattle.std.proofs.Common.{◌≡◌, ◌∙◌, ℕ, ℤ, pos, zero, suc, ◌+◌, ◌*◌, ◌/◌, ◌%◌, ◌^◌, ◌<◌, Bool, true, false, eqb, List, [], ◌∷◌, ◌++◌, length, get_or, refl, sym, ap, arith}
use Rattle.std.specs.List.{list_all}
use Rattle.std.specs.Int.{bit_at, div_ceil, to_le_bytes}
use Rattle.std.proofs.lemmas.List.{get_or-append-add, length-append}
use Rattle.std.proofs.lemmas.List.FromFn.{fill_by_all}
use Rattle.fastlanes.specs.Layout.{bit_value, le_sum, word_at}
use Rattle.fastlanes.proofs.BitSums.{bit_at_from_bits, bit_value_small}
use Rattle.fl_types.specs.declared.dtype.PType.{PType}
use Rattle.fl_types.specs.declared.dtype.PType.TheVariants.{U8, U16, U32, U64, I8, I16, I32, I64}
use Rattle.fl_types.specs.Integers.{bits_of_type, fits, pattern_of, read_as}
use Rattle.fl_types.proofs.Patterns.{read_pattern}
use Rattle.fl_column.proofs.ListLaws.{all_at}
use Rattle.fl_codec.proofs.Congruence.{pattern_small}
use Rattle.fl_bitpacking.proofs.Tables.{get_or-table, length-table}
use Rattle.fl_serde.specs.Leaves.{bit_of_bytes, bits_of_bytes, bits_size, byte_of_bits, bytes_of_bits, bytes_of_slots, slot_at, slots_of_bytes, slots_size, width_of_type}

-- ---- booleans
set_again : (b : Bool) → eqb (bit_value b) 1 ≡ b
set_again true = refl
set_again false = refl

byte_at : (bits : List Bool) (k j : ℕ) → j < 8 → eqb (bit_at (byte_of_bits bits k) j) 1 ≡ get_or bits (8 * k + j) false
unfolding byte_of_bits
byte_at bits k j lt =
    ap (λ b. eqb b 1) (bit_at_from_bits (λ j. bit_value (get_or bits (8 * k + j) false)) (λ j. bit_value_small (get_or bits (8 * k + j) false)) 8 j lt)
    ∙ set_again (get_or bits (8 * k + j) false)

bit_again : (bits : List Bool) (i : ℕ) → i < length bits → bit_of_bytes (bytes_of_bits bits) i ≡ get_or bits i false
unfolding bit_of_bytes
bit_again bits i lt =
    let here : i / 8 < div_ceil (length bits) 8 = omega (arith, lt) in
    let place : 8 * (i / 8) + i % 8 ≡ i = omega arith in
    ap (λ b. eqb (bit_at b (i % 8)) 1) (get_or-table (byte_of_bits bits) (div_ceil (length bits) 8) (i / 8) 0 here)
    ∙ byte_at bits (i / 8) (i % 8) (omega arith)
    ∙ ap (λ k. get_or bits k false) place

pub bits_again : (bits : List Bool) → bits_of_bytes (bytes_of_bits bits) (length bits) ≡ bits
bits_again bits = sym (fill_by_all (bit_of_bytes (bytes_of_bits bits)) bits (length bits) false refl (λ i lt. sym (bit_again bits i lt)))

pub bits_sized : (bits : List Bool) → length (bytes_of_bits bits) ≡ bits_size (length bits)
bits_sized bits = length-table (byte_of_bits bits) (div_ceil (length bits) 8)

-- ---- stored integers
same_sums : (f g : ℕ → ℕ) (n : ℕ) → ((i : ℕ) → i < n → f i ≡ g i) → le_sum f n ≡ le_sum g n
same_sums f g zero same = refl
same_sums f g (suc n) same =
    ap (λ s. s + 256 ^ n * f n) (same_sums f g n (λ i lt. same i (omega (arith, lt)))) ∙ ap (λ b. le_sum g n + 256 ^ n * b) (same n (omega arith))

-- the words behind the first
later_word : (T : ℕ) (front rest : List ℕ) (m : ℕ) → length front ≡ T / 8 → word_at T (front ++ rest) (suc m) ≡ word_at T rest m
later_word T front rest m long = same_sums _ _ (T / 8) (λ i lt.
    let place : suc m * (T / 8) + i ≡ length front + (m * (T / 8) + i) = omega (arith, long) in
    ap (λ k. get_or (front ++ rest) k 0) place ∙ get_or-append-add front rest (m * (T / 8) + i) 0)

-- the first word of each width
first_word : (ptype : PType) (n : ℕ) (rest : List ℕ) → n < 2 ^ bits_of_type ptype → word_at (bits_of_type ptype) (to_le_bytes (width_of_type ptype) n ++ rest) 0 ≡ n
first_word U8 n rest lt = omega (arith, lt)
first_word U16 n rest lt = omega (arith, lt)
first_word U32 n rest lt = omega (arith, lt)
first_word U64 n rest lt = omega (arith, lt)
first_word I8 n rest lt = omega (arith, lt)
first_word I16 n rest lt = omega (arith, lt)
first_word I32 n rest lt = omega (arith, lt)
first_word I64 n rest lt = omega (arith, lt)

word_size : (ptype : PType) (n : ℕ) → length (to_le_bytes (width_of_type ptype) n) ≡ bits_of_type ptype / 8
word_size U8 n = refl
word_size U16 n = refl
word_size U32 n = refl
word_size U64 n = refl
word_size I8 n = refl
word_size I16 n = refl
word_size I32 n = refl
word_size I64 n = refl

-- word i of the bytes is the pattern of integer i
word_again : (ptype : PType) (slots : List ℤ) (i : ℕ) → i < length slots → word_at (bits_of_type ptype) (bytes_of_slots ptype slots) i ≡ pattern_of ptype (get_or slots i (pos 0))
word_again ptype [] i lt = absurd (omega (arith, lt))
word_again ptype (z ∷ slots) zero lt = first_word ptype (pattern_of ptype z) (bytes_of_slots ptype slots) (pattern_small ptype z)
word_again ptype (z ∷ slots) (suc i) lt =
    later_word (bits_of_type ptype) (to_le_bytes (width_of_type ptype) (pattern_of ptype z)) (bytes_of_slots ptype slots) i (word_size ptype (pattern_of ptype z))
    ∙ word_again ptype slots i (omega (arith, lt))

slot_again : (ptype : PType) (slots : List ℤ) (i : ℕ) → list_all (fits ptype) slots ≡ true → i < length slots → slot_at ptype (bytes_of_slots ptype slots) i ≡ get_or slots i (pos 0)
slot_again ptype slots i all lt = ap (read_as ptype) (word_again ptype slots i lt) ∙ read_pattern ptype (get_or slots i (pos 0)) (all_at (fits ptype) slots i (pos 0) all lt)

pub slots_again : (ptype : PType) (slots : List ℤ) → list_all (fits ptype) slots ≡ true → slots_of_bytes ptype (bytes_of_slots ptype slots) (length slots) ≡ slots
slots_again ptype slots all = sym (fill_by_all (slot_at ptype (bytes_of_slots ptype slots)) slots (length slots) (pos 0) refl (λ i lt. sym (slot_again ptype slots i all lt)))

-- they are as many bytes as are asked for
pub slots_sized : (ptype : PType) (slots : List ℤ) → length (bytes_of_slots ptype slots) ≡ slots_size ptype (length slots)
slots_sized ptype [] = omega arith
slots_sized ptype (z ∷ slots) =
    let front = word_size ptype (pattern_of ptype z) in
    let rest = slots_sized ptype slots in
    omega (arith, length-append (to_le_bytes (width_of_type ptype) (pattern_of ptype z)) (bytes_of_slots ptype slots), front, rest)
