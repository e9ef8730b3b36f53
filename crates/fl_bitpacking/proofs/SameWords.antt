-- The words of packed bytes.
use Rattle.std.proofs.Common.{◌≡◌, ℕ, zero, suc, ◌+◌, ◌*◌, ◌/◌, ◌%◌, ◌^◌, ◌<◌, ℤ, pos, negsuc, List, length, get_or, drop, unsigned_abs, refl, ap, sym, ◌∙◌, arith, lit<, add-one, mul_comm}
use Rattle.std.specs.Int.{int_rem_euclid}
use Rattle.std.proofs.Math.Nat.{mod-lt}
use Rattle.std.proofs.lemmas.List.{get_or-take, get_or-drop}
use Rattle.std.proofs.lemmas.Nat.{div_below, div-add-mod', mod_below, mul-add-lt, pow-add}
use Rattle.fastlanes.specs.Layout.{le_sum, word_at, IsWordWidth, bits_8, bits_16, bits_32, bits_64}
use Rattle.fastlanes.proofs.Unique.{same_words}
use Rattle.fl_types.specs.declared.dtype.PType.{PType}
use Rattle.fl_types.specs.declared.dtype.PType.TheVariants.{U8, U16, U32, U64, I8, I16, I32, I64}
use Rattle.fl_types.specs.Integers.{bits_of_type, lanes_of_type, pattern_of}
use Rattle.fl_column.specs.Chunks.{chunk_count}
use Rattle.fl_bitpacking.specs.Blocks.{ArePacked, AreWords, bytes_of_block, global_blocks, pattern_in}
use Rattle.fl_bitpacking.proofs.Natives.{block_size}
use Rattle.fl_bitpacking.proofs.Restores.{type_shape}

-- ---- sums of bytes
same_sums : (byte other : ℕ → ℕ) (n : ℕ) → ((i : ℕ) → i < n → byte i ≡ other i) → le_sum byte n ≡ le_sum other n
same_sums byte other zero same = refl
same_sums byte other (suc n) same =
    let before = same_sums byte other n (λ i h. same i (omega arith)) in
    let here = same n (omega arith) in
    rw (before, here) refl

small_sum : (byte : ℕ → ℕ) → ((i : ℕ) → byte i < 256) → (n : ℕ) → le_sum byte n < 256 ^ n
small_sum byte small zero = lit< tt
small_sum byte small (suc n) =
    let below = small_sum byte small n in
    let more : byte n * 256 ^ n + le_sum byte n < 256 ^ n * 256 = mul-add-lt (byte n) (256 ^ n) (le_sum byte n) 256 (small n) below in
    let power : 256 ^ (n + 1) ≡ 256 ^ n * 256 = pow-add 256 n 1 in
    let next : 256 ^ suc n ≡ 256 ^ n * 256 = rw add-one at power in
    rw next (omega arith)

word_small : (T lanes : ℕ) (bytes : List ℕ) (m : ℕ) → IsWordWidth T lanes → ((i : ℕ) → get_or bytes i 0 < 256) → word_at T bytes m < 2 ^ T
word_small _ _ bytes m bits_8 small = small_sum (λ i. get_or bytes (m * 1 + i) 0) (λ i. small (m * 1 + i)) 1
word_small _ _ bytes m bits_16 small = small_sum (λ i. get_or bytes (m * 2 + i) 0) (λ i. small (m * 2 + i)) 2
word_small _ _ bytes m bits_32 small = small_sum (λ i. get_or bytes (m * 4 + i) 0) (λ i. small (m * 4 + i)) 4
word_small _ _ bytes m bits_64 small = small_sum (λ i. get_or bytes (m * 8 + i) 0) (λ i. small (m * 8 + i)) 8

-- ---- words of a block
-- where byte i of word r of block j stands
byte_place : (T lanes width j r i : ℕ) → IsWordWidth T lanes → 128 * width * j + (r * (T / 8) + i) ≡ (width * lanes * j + r) * (T / 8) + i
byte_place _ _ width j r i bits_8 = omega arith
byte_place _ _ width j r i bits_16 = omega arith
byte_place _ _ width j r i bits_32 = omega arith
byte_place _ _ width j r i bits_64 = omega arith

-- a block's words are words of the whole
word_of_blocks : (T lanes width j r : ℕ) (bytes : List ℕ) → IsWordWidth T lanes → r < width * lanes → word_at T (bytes_of_block (global_blocks width) bytes j) r ≡ word_at T bytes (width * lanes * j + r)
word_of_blocks T lanes width j r bytes shape h =
    same_sums _ _ (T / 8) (λ i below.
    let size = block_size T lanes width shape in
    let within : r * (T / 8) + i < T / 8 * (width * lanes) = mul-add-lt r (T / 8) i (width * lanes) h below in
    let order = mul_comm (T / 8) (width * lanes) in
    get_or-take _ (drop (128 * width * j) bytes) (r * (T / 8) + i) 0 (omega arith)
    ∙ (get_or-drop (128 * width * j) bytes (r * (T / 8) + i) 0 ∙ ap (λ (n : ℕ). get_or bytes n 0) (byte_place T lanes width j r i shape)))

-- ---- patterns
rem_below : (m : ℕ) (z : ℤ) → 0 < m → unsigned_abs (int_rem_euclid z (pos m)) < m
rem_below m (pos a) some = mod-lt a some
rem_below m (negsuc a) some = omega arith

pattern_below : (ptype : PType) (z : ℤ) → pattern_of ptype z < 2 ^ bits_of_type ptype
pattern_below U8 z = rem_below (2 ^ 8) z (omega arith)
pattern_below U16 z = rem_below (2 ^ 16) z (omega arith)
pattern_below U32 z = rem_below (2 ^ 32) z (omega arith)
pattern_below U64 z = rem_below (2 ^ 64) z (omega arith)
pattern_below I8 z = rem_below (2 ^ 8) z (omega arith)
pattern_below I16 z = rem_below (2 ^ 16) z (omega arith)
pattern_below I32 z = rem_below (2 ^ 32) z (omega arith)
pattern_below I64 z = rem_below (2 ^ 64) z (omega arith)

pattern_in_below : (ptype : PType) (words : List ℤ) (m : ℕ) → pattern_in ptype words m < 2 ^ bits_of_type ptype
unfolding pattern_in
pattern_in_below ptype words m = pattern_below ptype (get_or words m (pos 0))

-- words of the type itself are the words of the bytes
pub words_of_bytes : (ptype : PType) (integers words : List ℤ) (width : ℕ) (bytes : List ℕ) → ((i : ℕ) → get_or bytes i 0 < 256) → AreWords ptype integers width words → ArePacked ptype integers (global_blocks width) bytes
    → (m : ℕ) → m < length words → pattern_in ptype words m ≡ word_at (bits_of_type ptype) bytes m
words_of_bytes ptype integers words width bytes small made packed m h =
    let T = bits_of_type ptype in
    let lanes = lanes_of_type ptype in
    let shape = type_shape ptype in
    let size = width * lanes in
    let inside : m < size * chunk_count (length integers) = rw (← made.size) h in
    let some : 0 < size = positive size (chunk_count (length integers)) m inside in
    let j_below : m / size < chunk_count (length integers) = div_below m size (chunk_count (length integers)) some (rw (mul_comm (chunk_count (length integers)) size) inside) in
    let r_below : m % size < size = mod_below m size some in
    let place : size * (m / size) + m % size ≡ m = ap (λ (n : ℕ). n + m % size) (mul_comm size (m / size)) ∙ div-add-mod' m size in
    let here = λ (r : ℕ) (q : r < size). word_of_blocks T lanes width (m / size) r bytes shape q in
    let one = same_words T lanes width (λ q. pattern_in ptype integers (1024 * (m / size) + q)) (λ q. pattern_in ptype integers (1024 * (m / size) + q)) (λ r. pattern_in ptype words (size * (m / size) + r)) (word_at T (bytes_of_block (global_blocks width) bytes (m / size))) shape
    (λ i q. refl) (made.each (m / size) j_below) (packed.each (m / size) j_below)
    (λ r q. (pattern_in_below ptype words (size * (m / size) + r), rw (here r q) (word_small T lanes bytes (size * (m / size) + r) shape small))) (m % size) r_below in
    ap (pattern_in ptype words) (sym place) ∙ (one ∙ (here (m % size) r_below ∙ ap (word_at T bytes) place))
  where
    positive : (a b m : ℕ) → m < a * b → 0 < a
    positive zero b m h = absurd (omega arith)
    positive (suc a) b m h = omega arith
