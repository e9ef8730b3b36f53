-- Answers for the items of a block.
use Rattle.std.proofs.Common.{◌≡◌, ◌≢◌, ℕ, ℤ, pos, ◌+◌, ◌*◌, ◌/◌, ◌%◌, ◌<◌, ◌^◌, Bool, true, List, length, get_or, set, Option, Some, None, option_map, unwrap_or, IsTrue, refl, ap, sym, ◌∙◌, inl, inr, arith}
use Rattle.std.proofs.Math.Path.{subst}
use Rattle.std.proofs.lemmas.Bool.{cases_eq, lt-ltb}
use Rattle.fastlanes.specs.Compared.{has_bit, is_bit_set}
use Rattle.fl_types.specs.declared.dtype.PType.{PType}
use Rattle.fl_types.specs.Bits.{bit_of_word}
use Rattle.fl_types.specs.Integers.{bits_of_type, fits, pattern_of, read_as}
use Rattle.fl_codec.proofs.Congruence.{pattern_small}
use Rattle.fl_bitpacking.specs.RangeTests.{answer_of, in_range}
use Rattle.fl_types.specs.Validities.{is_valid_at}
use Rattle.fl_patches.specs.PatchMaps.{PatchesParts, is_rising, patched, patched_in, rank_of}
use Rattle.fl_patches.proofs.Rising.{rank_at, rank_found}
use Rattle.fl_bitpacking.specs.BlockAnswers.{AreBlockAnswers}
use Rattle.fl_bitpacking.specs.Blocks.{Blocks, item_of_blocks}
use Rattle.fl_bitpacking.specs.Columns.{BitPackedParts, column_of_packed, packed_item, stored}
use Rattle.fl_bitpacking.proofs.ComparedLaws.{answer_or, bit_in_word}
use Rattle.fl_bitpacking.proofs.FoundBelow.{found_below, skipped}
use Rattle.fl_bitpacking.proofs.ReadItems.{valid_is}
use Rattle.fl_bitpacking.proofs.Tables.{get_or-table, length-table}

-- a bit of a word, by both names
pub same_bit : (word j : ℕ) → is_bit_set word j ≡ bit_of_word word j
unfolding is_bit_set bit_of_word
same_bit word j = refl

-- a word of answers is put
pub bit_answered : (test : ℤ → Bool) (zs : List ℤ) (bits : List ℕ) (word k i : ℕ) → k < length bits → i / 64 ≡ k → ((j : ℕ) → j < 64 → bit_of_word word j ≡ test (get_or zs (64 * k + j) (pos 0))) → has_bit (set bits k word) i ≡ test (get_or zs i (pos 0))
bit_answered test zs bits word k i inside at each =
    let low : i % 64 < 64 = omega arith in
    let place : 64 * k + i % 64 ≡ i = omega arith in
    bit_in_word bits k word i inside at ∙ (same_bit word (i % 64) ∙ (each (i % 64) low ∙ ap (λ n. test (get_or zs n (pos 0))) place))

-- an integer of a word's items is one of the type
pub in_word : (ptype : PType) (zs : List ℤ) (k i : ℕ) → i / 64 ≡ k → ((j : ℕ) → j < 64 → IsTrue (fits ptype (get_or zs (64 * k + j) (pos 0)))) → IsTrue (fits ptype (get_or zs i (pos 0)))
in_word ptype zs k i at each =
    let place : 64 * k + i % 64 ≡ i = omega arith in
    subst (λ (n : ℕ). IsTrue (fits ptype (get_or zs n (pos 0)))) place (each (i % 64) (omega arith))

-- a test of the pattern of an integer of the type is the test of the integer
pub pattern_tested : (test : ℤ → Bool) (ptype : PType) (T low span : ℕ) (negated : Bool) (z : ℤ) (bit : Bool) → T ≡ bits_of_type ptype → ((p : ℕ) → p < 2 ^ bits_of_type ptype → answer_of negated (in_range (bits_of_type ptype) low span p) ≡ test (read_as ptype p)) → read_as ptype (pattern_of ptype z) ≡ z
    → bit ≡ answer_of negated (in_range T low span (pattern_of ptype z)) → bit ≡ test z
pattern_tested test ptype T low span negated z bit bits same read is = is ∙ (ap (λ t. answer_of negated (in_range t low span (pattern_of ptype z))) bits ∙ (same (pattern_of ptype z) (pattern_small ptype z) ∙ ap test read))

-- one more value, whose answer becomes the bit of its place
pub bit_more : (test : ℤ → Bool) (old new was : ℕ → Bool) (slots : List ℤ) (xs : List ℕ) (offset k at n : ℕ) → is_rising xs ≡ true → k < length xs → get_or xs k 0 ≡ offset + at → new at ≡ test (get_or slots k (pos 0)) → ((i : ℕ) → i ≢ at → new i ≡ old i)
    → ((i : ℕ) → i < n → old i ≡ unwrap_or (option_map test (found_below slots k (rank_of (offset + i) xs))) (was i)) → (i : ℕ) → i < n → new i ≡ unwrap_or (option_map test (found_below slots (k + 1) (rank_of (offset + i) xs))) (was i)
bit_more test old new was slots xs offset k at n rise inside is here others done i h = elim (cases_eq i at) [
  | inl same ↦
      let found = rank_found xs (offset + i) k rise inside (is ∙ ap (λ n. offset + n) (sym same)) in
      ap new same ∙ (here ∙ sym (rw (found, lt-ltb k (k + 1) (omega arith)) refl))
  | inr other ↦
      let apart : rank_of (offset + i) xs ≢ Some k = λ e. other (let at_is = rank_at xs (offset + i) k e in omega (arith, at_is.1)) in
      others i other ∙ (done i h ∙ ap (λ o. unwrap_or (option_map test o) (was i)) (skipped slots k (rank_of (offset + i) xs) apart))
]

-- the answer for an item of a part that may be patched
pub part_put : (test : ℤ → Bool) (patches : Option PatchesParts) (p : PatchesParts) (was bits : List ℕ) (from low k i q : ℕ) → patches ≡ Some p → from + k ≡ i → low + k ≡ q → has_bit bits (low + k) ≡ unwrap_or (option_map test (patched p (from + k))) (has_bit was (low + k))
    → has_bit bits q ≡ unwrap_or (option_map test (patched_in patches i)) (has_bit was q)
part_put test patches p was bits from low k i q some index place put = rw (some, ← index, ← place) put

-- the answers for what is stored in a block, and for its patches over them, are those for its items
pub block_tested : (test : ℤ → Bool) (parts : BitPackedParts) (blocks : Blocks) (was bits : List ℕ) (j : ℕ) → ((q : ℕ) → q < 1024 → has_bit was q ≡ test (item_of_blocks parts.ptype blocks parts.packed (1024 * j + q)))
    → ((i : ℕ) → i < parts.len → (parts.offset + i) / 1024 ≡ j → has_bit bits ((parts.offset + i) % 1024) ≡ unwrap_or (option_map test (patched_in parts.patches i)) (has_bit was ((parts.offset + i) % 1024)))
    → AreBlockAnswers test bits j parts.offset (column_of_packed parts blocks)
unfolding packed_item
block_tested test parts blocks was bits j read put = λ i z inside at e.
    let long = length-table (packed_item parts blocks) parts.len in
    let here : i < parts.len = omega arith in
    let q = (parts.offset + i) % 1024 in
    let place : 1024 * j + q ≡ parts.offset + i = omega arith in
    let patch = patched_in parts.patches i in
    let item = valid_is (is_valid_at parts.validity i) (unwrap_or patch (stored parts blocks i)) z (sym (get_or-table (packed_item parts blocks) parts.len i None here) ∙ e) in
    put i here at
    ∙ (ap (unwrap_or (option_map test patch)) (read q (omega arith) ∙ ap (λ p. test (item_of_blocks parts.ptype blocks parts.packed p)) place)
    ∙ (answer_or test patch (stored parts blocks i) ∙ ap test item))
