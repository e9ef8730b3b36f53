-- Answers of tests as bits, block by block, and the column that they make.
use Rattle.std.proofs.Common.{◌≡◌, ◌≢◌, ℕ, ℤ, pos, zero, suc, ◌+◌, ◌+ℤ◌, ◌-◌, ◌*◌, ◌/◌, ◌%◌, ◌^◌, ◌<◌, ◌≤◌, ◌++◌, List, Bool, true, false, cond, not, nat_eq, length, get_or, map, set, Option, Some, None, option_map, unwrap_or, Result, Ok, refl, ap, sym, ◌∙◌, inl, inr, arith}
use Rattle.std.specs.Int.{bit_at, bit_not, w64}
use Rattle.std.proofs.lemmas.Bool.{cases_eq}
use Rattle.std.proofs.Math.Pow.{pow_mono}
use Rattle.std.proofs.lemmas.Nat.Bits.{bit_at-lt, bit_at-zero, bit_at_not, bit_at_ones}
use Rattle.std.proofs.lemmas.List.{length-map, get_or-map, get_or-set_same, get_or-set_other, get_or_append_left, get_or-append_right}
use Rattle.std.proofs.lemmas.List.FromFn.{fill_by_all, length-map-range_with_len, get_or-map-range_with_len, sum_by-map-range_with_len_more}
use Rattle.fastlanes.specs.Layout.{IsWordWidth, place, row_of, lane_of, packed_bit, unpacked_bits, unpacked_item, word_at}
use Rattle.fastlanes.specs.Rows.{item_of_row}
use Rattle.fastlanes.specs.Compared.{has_bit, is_bit_set}
use Rattle.fastlanes.proofs.Bijection.{position_placed}
use Rattle.fastlanes.proofs.BitSums.{from_bits_below}
use Rattle.fastlanes.proofs.Blocks.{packed_bit_small}
use Rattle.fl_types.specs.declared.dtype.DType.{DType}
use Rattle.fl_types.specs.declared.dtype.DType.TheVariants as dtypes
use Rattle.fl_types.specs.declared.dtype.PType.{PType}
use Rattle.fl_types.specs.declared.error.FastLanesError.{FastLanesError}
use Rattle.fl_types.specs.Bits.{bit_of_word, bits_from, is_set, tabulate}
use Rattle.fl_types.specs.Integers.{bits_of_type, lanes_of_type, read_as, wrap}
use Rattle.fl_types.specs.Refusals.{Answers}
use Rattle.fl_types.specs.Types.{nullability_in}
use Rattle.fl_types.specs.Validities.{covers, is_valid_at, items_of}
use Rattle.fl_types.specs.Values.{bool_number, integer_of}
use Rattle.fl_types.proofs.BitLists.{same_tables}
use Rattle.fl_codec.specs.FoRColumns.{plus_reference}
use Rattle.fl_column.specs.Columns.{BoolParts, Column, PrimitiveParts, column_of_bools, new_bools}
use Rattle.fl_column.specs.Queries.{tested}
use Rattle.fl_column.proofs.ItemLaws.{get_or-items_of, length-items_of}
use Rattle.fl_patches.specs.PatchMaps.{is_rising, patched_in, rank_of}
use Rattle.fl_patches.proofs.Rising.{rank_at, rank_found}
use Rattle.fl_bitpacking.specs.Blocks.{Blocks, block_item}
use Rattle.fl_bitpacking.specs.Columns.{BitPackedParts, column_of_packed, packed_item, stored}
use Rattle.fl_bitpacking.specs.Decided.{is_decided, undecided_below}
use Rattle.fl_bitpacking.specs.Parts.{Fit}
use Rattle.fl_bitpacking.specs.RangeTests.{answer_of, in_range}
use Rattle.fl_bitpacking.specs.References.{of_sums, plus_references}
use Rattle.fl_bitpacking.specs.declared.references.References.{References}
use Rattle.fl_bitpacking.specs.declared.references.References.TheVariants as added
use Rattle.fl_bitpacking.proofs.BlockSums.{map-table}
use Rattle.fl_bitpacking.proofs.DecidedLaws.{decided_answer}
use Rattle.fl_bitpacking.proofs.FoundBelow.{found_below, skipped}
use Rattle.fl_bitpacking.proofs.Natives.{block_item_is}
use Rattle.fl_bitpacking.proofs.RangeLaws.{read_small}
use Rattle.fl_bitpacking.proofs.Tables.{get_or-table, length-table}
use Rattle.std.proofs.lemmas.Bool.{lt-ltb}

-- ---- words of bits
flipped : (b : ℕ) → b < 2 → nat_eq (1 - b) 1 ≡ not (nat_eq b 1)
flipped zero h = refl
flipped (suc zero) h = refl
flipped (suc (suc b)) h = absurd (omega arith)

pub turned_bit : (word j : ℕ) → word < 2 ^ 64 → j < 64 → is_bit_set (bit_not w64 word) j ≡ not (is_bit_set word j)
unfolding is_bit_set
turned_bit word j small h = ap (λ (n : ℕ). nat_eq n 1) (bit_at_not w64 word j small h) ∙ flipped (bit_at word j) (bit_at-lt word j)

pub all_ones : (j : ℕ) → j < 64 → is_bit_set 18446744073709551615 j ≡ true
unfolding is_bit_set
all_ones j h = ap (λ (n : ℕ). nat_eq n 1) (bit_at_ones 64 j h)

pub no_ones : (j : ℕ) → is_bit_set 0 j ≡ false
unfolding is_bit_set
no_ones j = ap (λ (n : ℕ). nat_eq n 1) (bit_at-zero j)

pub bit_in_word : (words : List ℕ) (k word i : ℕ) → k < length words → i / 64 ≡ k → has_bit (set words k word) i ≡ is_bit_set word (i % 64)
unfolding has_bit
bit_in_word words k word i h e = rw e (ap (λ (w : ℕ). is_bit_set w (i % 64)) (get_or-set_same words k word 0 h))

pub bit_out_of_word : (words : List ℕ) (k word i : ℕ) → i / 64 ≢ k → has_bit (set words k word) i ≡ has_bit words i
unfolding has_bit
bit_out_of_word words k word i e = ap (λ (w : ℕ). is_bit_set w (i % 64)) (get_or-set_other words k (i / 64) word 0 e)

pub bit_of_its_word : (words : List ℕ) (k i : ℕ) → i / 64 ≡ k → has_bit words i ≡ is_bit_set (get_or words k 0) (i % 64)
unfolding has_bit
bit_of_its_word words k i e = rw e refl

pub filled_bit : (words : List ℕ) (word i : ℕ) (on : Bool) → get_or words (i / 64) 0 ≡ word → is_bit_set word (i % 64) ≡ on → has_bit words i ≡ on
unfolding has_bit
filled_bit words word i on is e = rw is e

pub bit_before : (words bits : List ℕ) (j p : ℕ) → length words ≡ 16 * j → p < 1024 * j → is_set (words ++ bits) p ≡ is_set words p
unfolding is_set
bit_before words bits j p long h = ap (λ (w : ℕ). bit_of_word w (p % 64)) (get_or_append_left words bits 0 (p / 64) (omega arith))

pub bit_added : (words bits : List ℕ) (j p : ℕ) → length words ≡ 16 * j → 1024 * j ≤ p → is_set (words ++ bits) p ≡ has_bit bits (p - 1024 * j)
unfolding is_set bit_of_word has_bit is_bit_set
bit_added words bits j p long h =
    let at : p / 64 - 16 * j ≡ (p - 1024 * j) / 64 = omega arith in
    let rest : p % 64 ≡ (p - 1024 * j) % 64 = omega arith in
    ap (λ (w : ℕ). nat_eq (bit_at w (p % 64)) 1) (get_or-append_right words bits (16 * j) (p / 64) 0 long (omega arith) ∙ ap (λ (n : ℕ). get_or bits n 0) at)
    ∙ ap (λ (n : ℕ). nat_eq (bit_at (get_or bits ((p - 1024 * j) / 64) 0) n) 1) rest

pub length-bits_from : (words : List ℕ) (start n : ℕ) → length (bits_from words start n) ≡ n
unfolding bits_from
length-bits_from words start n = length-map-range_with_len (λ (i : ℕ). is_set words (start + i)) 0 n

pub bit_from : (words : List ℕ) (start n i : ℕ) → i < n → get_or (bits_from words start n) i false ≡ is_set words (start + i)
unfolding bits_from
bit_from words start n i h = get_or-map-range_with_len (λ (i : ℕ). is_set words (start + i)) 0 n i i false h (omega arith)

-- ---- one block
pub row_small : (T lanes width : ℕ) (word : ℕ → ℕ) (i : ℕ) → unpacked_item T lanes width word i < 2 ^ width
unfolding unpacked_item unpacked_bits
row_small T lanes width word i = from_bits_below (λ b. packed_bit T lanes word (lane_of lanes i) (row_of lanes i * width + b)) (λ b. packed_bit_small T lanes word (lane_of lanes i) (row_of lanes i * width + b)) width

-- the bits in the order of the items
pub answers_placed : (T lanes width low span : ℕ) (word : ℕ → ℕ) (rows bits : List ℕ) → IsWordWidth T lanes → ((r l : ℕ) → r < T → l < lanes → has_bit rows (l * T + r) ≡ in_range T low span (item_of_row T lanes width word r l))
    → ((r l : ℕ) → r < T → l < lanes → has_bit bits (place r l) ≡ has_bit rows (l * T + r)) → (i : ℕ) → i < 1024 → has_bit bits i ≡ in_range T low span (unpacked_item T lanes width word i)
unfolding unpacked_item item_of_row
answers_placed T lanes width low span word rows bits shape each moved i h =
    let placed = position_placed T lanes i shape h in
    ap (has_bit bits) (sym placed.0) ∙ (moved (row_of lanes i) (lane_of lanes i) placed.1 placed.2 ∙ each (row_of lanes i) (lane_of lanes i) placed.1 placed.2)

-- a test of patterns is the test of the items
pub block_tested : (test : ℤ → Bool) (ptype : PType) (T lanes width low span : ℕ) (negated : Bool) (bytes : List ℕ) (i : ℕ) (bit : Bool) → IsWordWidth T lanes → T ≡ bits_of_type ptype → width ≤ T
    → ((p : ℕ) → p < 2 ^ bits_of_type ptype → answer_of negated (in_range (bits_of_type ptype) low span p) ≡ test (read_as ptype p))
    → bit ≡ answer_of negated (in_range T low span (unpacked_item T lanes width (word_at T bytes) i)) → bit ≡ test (block_item ptype width bytes i)
block_tested test ptype T lanes width low span negated bytes i bit shape bits narrow same is =
    let p = unpacked_item T lanes width (word_at T bytes) i in
    let most : 2 ^ width ≤ 2 ^ bits_of_type ptype = pow_mono (omega arith) in
    let small = row_small T lanes width (word_at T bytes) i in
    let item = block_item_is ptype T lanes width bytes i p (read_as ptype p) shape bits refl refl in
    is ∙ (ap (λ (t : ℕ). answer_of negated (in_range t low span p)) bits ∙ (same p (omega arith) ∙ ap test item))

-- what a decided block's items answer
pub block_decided : (test : ℤ → Bool) (ptype : PType) (width : ℕ) (bytes : List ℕ) (i : ℕ) (bit : Bool) → is_decided ptype width test ≡ true → bit ≡ test (pos 0) → bit ≡ test (block_item ptype width bytes i)
unfolding block_item
block_decided test ptype width bytes i bit decided is =
    let p = unpacked_item (bits_of_type ptype) (lanes_of_type ptype) width (word_at (bits_of_type ptype) bytes) i in
    let small = row_small (bits_of_type ptype) (lanes_of_type ptype) width (word_at (bits_of_type ptype) bytes) i in
    let known = decided_answer ptype width test p decided small in
    is ∙ (sym known.1 ∙ ap test (sym (read_small ptype width p known.0 small)))

-- ---- counts
count_one : (decided : Bool) → ◌≡◌ {A = ℕ} (cond (not decided) 1 0) (cond decided 0 1)
count_one true = refl
count_one false = refl

pub undecided_more : (t : PType) (blocks : Blocks) (predicate : ℕ → ℤ → Bool) (j : ℕ) → undecided_below t blocks predicate (j + 1) ≡ undecided_below t blocks predicate j + cond (is_decided t (blocks.width j) (predicate j)) 0 1
unfolding undecided_below
undecided_more t blocks predicate j =
    sum_by-map-range_with_len_more (λ b. cond b 1 0) (λ (k : ℕ). not (is_decided t (blocks.width k) (predicate k))) 0 j j (omega arith)
    ∙ ap (λ (n : ℕ). undecided_below t blocks predicate j + n) (count_one (is_decided t (blocks.width j) (predicate j)))

pub undecided_none : (t : PType) (blocks : Blocks) (predicate : ℕ → ℤ → Bool) → undecided_below t blocks predicate 0 ≡ 0
unfolding undecided_below
undecided_none t blocks predicate = refl

-- more blocks leave no fewer undecided
pub undecided_within : (t : PType) (blocks : Blocks) (predicate : ℕ → ℤ → Bool) (j n : ℕ) → j ≤ n → undecided_below t blocks predicate j ≤ undecided_below t blocks predicate n
undecided_within t blocks predicate j zero h = let none : j ≡ 0 = omega arith in rw none (omega arith)
undecided_within t blocks predicate j (suc n) h =
    let one : suc n ≡ n + 1 = omega arith in
    elim (cases_eq j (n + 1)) [
      | inl same ↦ rw (one, same) (omega arith)
      | inr other ↦
          let step = undecided_more t blocks predicate n in
          let within = undecided_within t blocks predicate j n (omega arith) in
          rw one (omega arith)
    ]

-- ---- patches
-- one more answer is put
pub answer_more : (tests : ℕ → ℤ → Bool) (bits : List Bool) (was : ℕ → Bool) (slots : List ℤ) (xs : List ℕ) (offset k at : ℕ) (b : Bool) → is_rising xs ≡ true → k < length xs → get_or xs k 0 ≡ offset + at → at < length bits → b ≡ tests at (get_or slots k (pos 0))
    → ((i : ℕ) → i < length bits → get_or bits i false ≡ unwrap_or (option_map (tests i) (found_below slots k (rank_of (offset + i) xs))) (was i))
    → (i : ℕ) → i < length bits → get_or (set bits at b) i false ≡ unwrap_or (option_map (tests i) (found_below slots (k + 1) (rank_of (offset + i) xs))) (was i)
answer_more tests bits was slots xs offset k at b rise inside is room read done i h =
    elim (cases_eq i at) [
      | inl same ↦
          let found = rank_found xs (offset + i) k rise inside (is ∙ ap (λ n. offset + n) (sym same)) in
          rw same (get_or-set_same bits at b false room) ∙ (read ∙ (ap (λ (n : ℕ). tests n (get_or slots k (pos 0))) (sym same) ∙ sym (rw (found, lt-ltb k (k + 1) (omega arith)) refl)))
      | inr other ↦
          let apart : rank_of (offset + i) xs ≢ Some k = λ e. other (let here = rank_at xs (offset + i) k e in omega (arith, here.1)) in
          get_or-set_other bits at i b false other ∙ (done i h ∙ ap (λ o. unwrap_or (option_map (tests i) o) (was i)) (skipped slots k (rank_of (offset + i) xs) apart))
    ]

pub answer_or : (test : ℤ → Bool) (o : Option ℤ) (z : ℤ) → unwrap_or (option_map test o) (test z) ≡ test (unwrap_or o z)
answer_or test None z = refl
answer_or test (Some x) z = refl

-- ---- the column
-- what stands at an item that is null or not
answered_at : (valid bit : Bool) (test : ℤ → Bool) (z : ℤ) → bit ≡ test z → option_map bool_number (cond valid (Some bit) None) ≡ option_map (λ x. bool_number (test x)) (cond valid (Some z) None)
answered_at false bit test z e = refl
answered_at true bit test z e = ap (λ b. Some (bool_number b)) e

items_answered : (tests : ℕ → ℤ → Bool) (parts : BitPackedParts) (blocks : Blocks) (bits : List Bool) → covers parts.validity (length bits) ≡ true → length bits ≡ parts.len
    → ((i : ℕ) → i < parts.len → get_or bits i false ≡ tests i (unwrap_or (patched_in parts.patches i) (stored parts blocks i)))
    → map (option_map bool_number) (items_of parts.validity bits) ≡ tabulate (λ i. option_map (λ z. bool_number (tests i z)) (packed_item parts blocks i)) parts.len
unfolding packed_item
items_answered tests parts blocks bits covered long each =
    let items = items_of parts.validity bits in
    let size : length items ≡ parts.len = length-items_of parts.validity bits covered ∙ long in
    fill_by_all (λ i. option_map (λ z. bool_number (tests i z)) (packed_item parts blocks i)) (map (option_map bool_number) items) parts.len None (length-map items (option_map bool_number) ∙ size)
    (λ i h.
    get_or-map (option_map bool_number) items i None None (rw size h) ∙ (ap (option_map bool_number) (get_or-items_of parts.validity bits i false covered (rw long h))
    ∙ answered_at (is_valid_at parts.validity i) (get_or bits i false) (tests i) (unwrap_or (patched_in parts.patches i) (stored parts blocks i)) (each i h)))

-- the test of an item plus a reference
sum_tested : (test : ℤ → Bool) (ptype : PType) (r : ℤ) (item : Option ℤ) → option_map (λ z. bool_number (test z)) (plus_reference ptype r item) ≡ option_map (λ z. bool_number (test (wrap ptype (z +ℤ r)))) item
sum_tested test ptype r None = refl
sum_tested test ptype r (Some z) = refl

-- the test of a column, each item plus its reference
sums_tested : (test : ℤ → Bool) (references : References) (parts : BitPackedParts) (blocks : Blocks)
    → (tested test (plus_references references parts.offset (column_of_packed parts blocks))).items ≡ tabulate (λ i. option_map (λ z. bool_number (of_sums parts.ptype references test ((parts.offset + i) / 1024) z)) (packed_item parts blocks i)) parts.len
sums_tested test added.None parts blocks = map-table (option_map (λ z. bool_number (test z))) (packed_item parts blocks) parts.len None
sums_tested test (added.Global reference) parts blocks =
    let items = packed_item parts blocks in
    let answer : Option ℤ → Option ℤ = option_map (λ z. bool_number (test z)) in
    let r = integer_of reference in
    let sum : ℕ → Option ℤ = λ i. plus_reference parts.ptype r (items i) in
    ap (map answer) (map-table (plus_reference parts.ptype r) items parts.len None) ∙ (map-table answer sum parts.len None
    ∙ same_tables (λ i. answer (sum i)) (λ i. option_map (λ z. bool_number (test (wrap parts.ptype (z +ℤ r)))) (items i)) parts.len (λ i h. sum_tested test parts.ptype r (items i)))
sums_tested test (added.PerBlock references) parts blocks =
    let items = packed_item parts blocks in
    let answer : Option ℤ → Option ℤ = option_map (λ z. bool_number (test z)) in
    let reference : ℕ → ℤ = λ i. get_or references.now.slots ((parts.offset + i) / 1024) (pos 0) in
    let sum : ℕ → Option ℤ = λ i. plus_reference parts.ptype (reference i) (get_or (tabulate items parts.len) i None) in
    map-table answer sum (length (tabulate items parts.len)) None ∙ (ap (tabulate (λ i. answer (sum i))) (length-table items parts.len)
    ∙ same_tables (λ i. answer (sum i)) (λ i. option_map (λ z. bool_number (test (wrap parts.ptype (z +ℤ reference i)))) (items i)) parts.len
    (λ i h. ap (λ x. answer (plus_reference parts.ptype (reference i) x)) (get_or-table items parts.len i None h) ∙ sum_tested test parts.ptype (reference i) (items i)))

-- sums have the column's type
type_of_sums : (references : References) (offset : ℕ) (c : Column) → (plus_references references offset c).dtype ≡ c.dtype
type_of_sums added.None offset c = refl
type_of_sums (added.Global reference) offset c = refl
type_of_sums (added.PerBlock references) offset c = refl

pub column_tested : (test : ℤ → Bool) (references : References) (parts : BitPackedParts) (blocks : Blocks) (bits : List Bool) (r : Result BoolParts FastLanesError) → Fit parts → length bits ≡ parts.len
    → ((i : ℕ) → i < parts.len → get_or bits i false ≡ of_sums parts.ptype references test ((parts.offset + i) / 1024) (unwrap_or (patched_in parts.patches i) (stored parts blocks i)))
    → r ≡ new_bools bits parts.validity → Answers column_of_bools r (Ok (tested test (plus_references references parts.offset (column_of_packed parts blocks))))
column_tested test references parts blocks bits r fit long each is =
    let covered : covers parts.validity (length bits) ≡ true = rw long fit.covers in
    let made : r ≡ Ok (record { bits = bits; validity = parts.validity }) = is ∙ (rw covered refl) in
    let answers = items_answered (λ i. of_sums parts.ptype references test ((parts.offset + i) / 1024)) parts blocks bits covered long each ∙ sym (sums_tested test references parts blocks) in
    let c = column_of_packed parts blocks in
    let with : DType → List (Option ℤ) → Column = λ d items. record { dtype = dtypes.Bool (nullability_in d); items = items } in
    let same : column_of_bools (record { bits = bits; validity = parts.validity }) ≡ tested test (plus_references references parts.offset c) =
    ap (with c.dtype) answers ∙ ap (λ d. with d (tested test (plus_references references parts.offset c)).items) (sym (type_of_sums references parts.offset c)) in
    let answer : Column → Result Column FastLanesError = λ x. Ok x in
    rw made (ap answer (sym same))
