-- Integers and their patterns in packed blocks.
use Rattle.std.proofs.Common.{◌≡◌, ◌≢◌, ℕ, ℤ, pos, ◌+◌, ◌-◌, ◌*◌, ◌^◌, ◌/◌, ◌<◌, ◌≤◌, true, List, length, map, get_or, take, set, length-take, refl, ap, sym, ◌∙◌, arith, inl, inr}
use Rattle.std.proofs.Math.Nat.{mod-eq_of_lt}
use Rattle.std.proofs.Math.Pow.{pow_mono}
use Rattle.std.proofs.lemmas.Bool.{cases_eq}
use Rattle.std.proofs.lemmas.List.{get_or-map, length-map, get_or-take, get_or_past, map-set, get_or-set_same, get_or-set_other}
use Rattle.std.specs.Int.{bit_at}
use Rattle.fastlanes.specs.Layout.{pattern_at, place, Packed, row_of, words_of_item, unpacked_item, unpacked_bits, word_at, IsWordWidth, bits_8, bits_16, bits_32, bits_64}
use Rattle.fastlanes.proofs.BitSums.{from_bits_below}
use Rattle.fastlanes.proofs.Blocks.{packed_bit_small}
use Rattle.fastlanes.proofs.Bijection.{place_read}
use Rattle.fastlanes.proofs.Patterns.{pattern_at_read}
use Rattle.fl_types.specs.declared.dtype.PType.{PType}
use Rattle.fl_types.specs.declared.dtype.PType.TheVariants.{U8, U16, U32, U64, I8, I16, I32, I64}
use Rattle.fl_types.specs.Integers.{bits_of_type, lanes_of_type, is_unsigned, pattern_of, read_as}
use Rattle.fl_bitpacking.specs.Blocks.{block_item, pattern_in, value_at}

pub lanes_is : (ptype : PType) (T lanes : ℕ) → IsWordWidth T lanes → T ≡ bits_of_type ptype → lanes ≡ lanes_of_type ptype
lanes_is ptype _ _ bits_8 e = rw (← e) refl
lanes_is ptype _ _ bits_16 e = rw (← e) refl
lanes_is ptype _ _ bits_32 e = rw (← e) refl
lanes_is ptype _ _ bits_64 e = rw (← e) refl

-- the bits of a type are those of a word
pub word_width : (ptype : PType) → IsWordWidth (bits_of_type ptype) (lanes_of_type ptype)
word_width U8 = bits_8
word_width U16 = bits_16
word_width U32 = bits_32
word_width U64 = bits_64
word_width I8 = bits_8
word_width I16 = bits_16
word_width I32 = bits_32
word_width I64 = bits_64

-- the pattern 0 is the integer 0
pub zero_read : (ptype : PType) → read_as ptype 0 ≡ pos 0
zero_read U8 = refl
zero_read U16 = refl
zero_read U32 = refl
zero_read U64 = refl
zero_read I8 = refl
zero_read I16 = refl
zero_read I32 = refl
zero_read I64 = refl

-- the bytes of a word, times the lanes
pub block_size : (T lanes width : ℕ) → IsWordWidth T lanes → 128 * width ≡ width * lanes * (T / 8)
block_size _ _ width bits_8 = omega arith
block_size _ _ width bits_16 = omega arith
block_size _ _ width bits_32 = omega arith
block_size _ _ width bits_64 = omega arith

-- a block has at most 1024 words
pub few_words : (T lanes width : ℕ) → IsWordWidth T lanes → width ≤ T → width * lanes ≤ 1024
few_words _ _ width bits_8 h = omega arith
few_words _ _ width bits_16 h = omega arith
few_words _ _ width bits_32 h = omega arith
few_words _ _ width bits_64 h = omega arith

-- fewer blocks have no more bytes
pub fewer_blocks : (width count fewer len : ℕ) → len ≡ 128 * width * count → 128 * width * (count - fewer) ≤ len
fewer_blocks width count fewer len all =
    let few : count - fewer ≤ count = omega arith in
    let within : 128 * width * (count - fewer) ≤ 128 * width * count = grind arith in
    omega arith

-- ---- items and words
-- an unpacked item has its low bits alone
pub unpacked_small : (T lanes width : ℕ) (word : ℕ → ℕ) (i : ℕ) → unpacked_item T lanes width word i < 2 ^ width
unfolding unpacked_item unpacked_bits
unpacked_small T lanes width word i = from_bits_below _ (λ b. packed_bit_small T lanes word _ _) width

-- only the items of the block count
pub packed_by_items : (T lanes width : ℕ) (item other word : ℕ → ℕ) → IsWordWidth T lanes → ((i : ℕ) → i < 1024 → other i ≡ item i)
    → Packed T lanes width item word → Packed T lanes width other word
packed_by_items T lanes width item other word shape same packed = record {
  bits = λ r l b p q h. ap (λ (x : ℕ). bit_at x b) (same (place r l) (place_read T lanes r l shape p q).2) ∙ packed.bits r l b p q h;
}

-- ---- unsigned integers are their own patterns
pub unsigned_read : (ptype : PType) (p : ℕ) → is_unsigned ptype ≡ true → p < 2 ^ bits_of_type ptype → read_as ptype p ≡ pos p
unsigned_read U8 p e h = ap pos (mod-eq_of_lt h)
unsigned_read U16 p e h = ap pos (mod-eq_of_lt h)
unsigned_read U32 p e h = ap pos (mod-eq_of_lt h)
unsigned_read U64 p e h = ap pos (mod-eq_of_lt h)
unsigned_read I8 p e h = cc
unsigned_read I16 p e h = cc
unsigned_read I32 p e h = cc
unsigned_read I64 p e h = cc

pub unsigned_pattern : (ptype : PType) (n : ℕ) → is_unsigned ptype ≡ true → n < 2 ^ bits_of_type ptype → pattern_of ptype (pos n) ≡ n
unsigned_pattern U8 n e h = mod-eq_of_lt h
unsigned_pattern U16 n e h = mod-eq_of_lt h
unsigned_pattern U32 n e h = mod-eq_of_lt h
unsigned_pattern U64 n e h = mod-eq_of_lt h
unsigned_pattern I8 n e h = cc
unsigned_pattern I16 n e h = cc
unsigned_pattern I32 n e h = cc
unsigned_pattern I64 n e h = cc

-- unpacked words are items of an unsigned type
pub unsigned_unpacked : (ptype : PType) (T lanes width : ℕ) (items bytes : List ℕ) → IsWordWidth T lanes → T ≡ bits_of_type ptype → is_unsigned ptype ≡ true → width ≤ T → length items ≡ 1024
    → ((i : ℕ) → i < 1024 → pattern_at (λ x. x) items i ≡ unpacked_item T lanes width (word_at T bytes) i)
    → (i : ℕ) → i < 1024 → value_at (λ n. pos n) items i ≡ block_item ptype width bytes i
unfolding pattern_at value_at block_item
unsigned_unpacked ptype T lanes width items bytes shape bits plain narrow long each i h =
    let same : lanes ≡ lanes_of_type ptype = lanes_is ptype T lanes shape bits in
    let inside : i < length items = rw long h in
    let number : get_or items i 0 ≡ unpacked_item T lanes width (word_at T bytes) i = sym (get_or-map (λ x. x) items i 0 0 inside) ∙ each i h in
    let low = unpacked_small T lanes width (word_at T bytes) i in
    let wide = pow_mono narrow in
    let small : unpacked_item T lanes width (word_at T bytes) i < 2 ^ T = omega arith in
    let read : read_as ptype (unpacked_item T lanes width (word_at T bytes) i) ≡ pos (unpacked_item T lanes width (word_at T bytes) i) = unsigned_read ptype _ plain (rw (← bits) small) in
    get_or-map (λ n. pos n) items i 0 (pos 0) inside ∙ (ap pos number ∙ (sym read ∙ (ap (λ (t : ℕ). read_as ptype (unpacked_item t lanes width (word_at t bytes) i)) bits ∙ ap (λ (n : ℕ). read_as ptype (unpacked_item (bits_of_type ptype) n width (word_at (bits_of_type ptype) bytes) i)) same)))

-- the words of a whole block of an unsigned type are its integers
pub unsigned_packed : (ptype : PType) (T lanes width : ℕ) (items block : List ℕ) (word : ℕ → ℕ) → IsWordWidth T lanes → T ≡ bits_of_type ptype → is_unsigned ptype ≡ true → 1024 ≤ length items → block ≡ take 1024 items
    → ((i : ℕ) → get_or items i 0 < 2 ^ T) → Packed T lanes width (pattern_at (λ x. x) block) word → Packed T lanes width (pattern_in ptype (map (λ n. pos n) items)) word
unfolding pattern_at pattern_in
unsigned_packed ptype T lanes width items block word shape bits plain long is small packed =
    packed_by_items T lanes width _ _ word shape
    (λ i h.
    let inside : i < length items = omega arith in
    let taken : get_or block i 0 ≡ get_or items i 0 = rw is (get_or-take 1024 items i 0 h) in
    let room : i < length block = rw is (omega (arith, length-take 1024 items)) in
    ap (pattern_of ptype) (get_or-map (λ n. pos n) items i 0 (pos 0) inside)
    ∙ (unsigned_pattern ptype (get_or items i 0) plain (rw (← bits) (small i)) ∙ (sym taken ∙ sym (get_or-map (λ x. x) block i 0 0 room))))
    packed

-- ---- integers that a loop writes
pub value_at_set_same : {X : Type 0} (value : X → ℤ) (xs : List X) (i j : ℕ) (x : X) → j ≡ i → i < length xs → value_at value (set xs i x) j ≡ value x
unfolding value_at
value_at_set_same value xs i j x e h = rw (map-set, e) (get_or-set_same (map value xs) i (value x) (pos 0) (rw length-map h))

pub value_at_set_other : {X : Type 0} (value : X → ℤ) (xs : List X) (i j : ℕ) (x : X) → j ≢ i → value_at value (set xs i x) j ≡ value_at value xs j
unfolding value_at
value_at_set_other value xs i j x e = rw map-set (get_or-set_other (map value xs) i j (value x) (pos 0) e)

-- the step of a loop that writes element i
pub value_filled : {X : Type 0} (value : X → ℤ) (item : ℕ → ℤ) (xs : List X) (i : ℕ) (x : X) → i < length xs
    → ((j : ℕ) → j < i → value_at value xs j ≡ item j) → value x ≡ item i
    → (j : ℕ) → j < i + 1 → value_at value (set xs i x) j ≡ item j
value_filled value item xs i x h done e j below =
    elim (cases_eq j i) [
      | inl same ↦ value_at_set_same value xs i j x same h ∙ (e ∙ ap item (sym same))
      | inr other ↦ value_at_set_other value xs i j x other ∙ done j (omega arith)
    ]

-- an integer that was read
pub value_at_read : {X : Type 0} (value : X → ℤ) (xs : List X) (i : ℕ) (x : X) → i < length xs → x ≡ get_or xs i x → value_at value xs i ≡ value x
unfolding value_at
value_at_read value xs i x h e = get_or-map value xs i x (pos 0) h ∙ sym (ap value e)

-- ---- patterns of integers
pub pattern_of-zero : (ptype : PType) → pattern_of ptype (pos 0) ≡ 0
pattern_of-zero U8 = refl
pattern_of-zero U16 = refl
pattern_of-zero U32 = refl
pattern_of-zero U64 = refl
pattern_of-zero I8 = refl
pattern_of-zero I16 = refl
pattern_of-zero I32 = refl
pattern_of-zero I64 = refl

pub pattern_in_past : {X : Type 0} (value : X → ℤ) (ptype : PType) (xs : List X) (i : ℕ) → length xs ≤ i → pattern_in ptype (map value xs) i ≡ 0
unfolding pattern_in
pattern_in_past value ptype xs i h = ap (pattern_of ptype) (get_or_past (map value xs) i (pos 0) (rw length-map h)) ∙ pattern_of-zero ptype

-- an unpacked word, read as the type
pub block_item_read : {W : Type 0} (pattern : W → ℕ) (ptype : PType) (T lanes width : ℕ) (patterns : List W) (bytes : List ℕ) (i : ℕ) (w : W) (z : ℤ) → IsWordWidth T lanes → T ≡ bits_of_type ptype
    → i < 1024 → w ≡ get_or patterns i w → ((k : ℕ) → k < 1024 → pattern_at pattern patterns k ≡ unpacked_item T lanes width (word_at T bytes) k) → length patterns ≡ 1024 → z ≡ read_as ptype (pattern w) → z ≡ block_item ptype width bytes i
unfolding block_item
block_item_read pattern ptype T lanes width patterns bytes i w z shape bits h is each long read =
    let same : lanes ≡ lanes_of_type ptype = lanes_is ptype T lanes shape bits in
    read ∙ (ap (read_as ptype) (sym (pattern_at_read pattern patterns i w (rw long h) is) ∙ each i h)
    ∙ (ap (λ (t : ℕ). read_as ptype (unpacked_item t lanes width (word_at t bytes) i)) bits ∙ ap (λ (n : ℕ). read_as ptype (unpacked_item (bits_of_type ptype) n width (word_at (bits_of_type ptype) bytes) i)) same))

-- the words that an item takes, by its type
pub item_words : (ptype : PType) (T lanes width index : ℕ) → IsWordWidth T lanes → T ≡ bits_of_type ptype → words_of_item T width (row_of lanes index) ≡ words_of_item (bits_of_type ptype) width (row_of (lanes_of_type ptype) index)
item_words ptype T lanes width index shape bits =
    ap (λ (t : ℕ). words_of_item t width (row_of lanes index)) bits ∙ ap (λ (n : ℕ). words_of_item (bits_of_type ptype) width (row_of n index)) (lanes_is ptype T lanes shape bits)

pub block_item_is : (ptype : PType) (T lanes width : ℕ) (bytes : List ℕ) (i p : ℕ) (z : ℤ) → IsWordWidth T lanes → T ≡ bits_of_type ptype → p ≡ unpacked_item T lanes width (word_at T bytes) i → z ≡ read_as ptype p → z ≡ block_item ptype width bytes i
unfolding block_item
block_item_is ptype T lanes width bytes i p z shape bits is read =
    let same : lanes ≡ lanes_of_type ptype = lanes_is ptype T lanes shape bits in
    read ∙ (ap (read_as ptype) is
    ∙ (ap (λ (t : ℕ). read_as ptype (unpacked_item t lanes width (word_at t bytes) i)) bits ∙ ap (λ (n : ℕ). read_as ptype (unpacked_item (bits_of_type ptype) n width (word_at (bits_of_type ptype) bytes) i)) same))
