-- Tests of the items of a chunk by its run values and run indices.
use Rattle.std.proofs.Common.{◌≡◌, ℕ, ℤ, pos, ◌+◌, ◌*◌, ◌/◌, ◌%◌, ◌<◌, ◌≤◌, Bool, true, List, length, map, get_or, Option, Some, None, IsTrue, option_map, unsigned_abs, refl, ap, subst, sym, ◌∙◌, arith}
use Rattle.std.proofs.lemmas.Bool.{ltb-true}
use Rattle.fastlanes.specs.Compared.{has_bit}
use Rattle.fl_types.specs.declared.dtype.DType.{DType}
use Rattle.fl_types.specs.declared.dtype.DType.TheVariants as dtypes
use Rattle.fl_types.specs.declared.dtype.PType.{PType}
use Rattle.fl_types.specs.declared.dtype.PType.TheVariants.{U8, U16, U32, U64, I8, I16, I32, I64}
use Rattle.fl_types.specs.Integers.{fits, is_unsigned, pattern_of}
use Rattle.fl_types.specs.Values.{fits_in}
use Rattle.fl_column.specs.Chunks.{chunk_count}
use Rattle.fl_column.specs.Columns.{Column, integers_in, numbers_of, option_all}
use Rattle.fl_column.proofs.ListLaws.{all_at}
use Rattle.fl_codec.specs.RunColumns.{chunk_start, is_run_index, run_count}
use Rattle.fl_codec.specs.RunRefusals.{is_run_index_dtype}
use Rattle.fl_codec.proofs.Congruence.{pattern_small, read_as-pattern_of}
use Rattle.fl_codec.proofs.Tables.{get_or-table}
use Rattle.fl_bitpacking.specs.Blocks.{value_at}
use Rattle.fl_bitpacking.specs.ValueAnswers.{named_answer}
use Rattle.fl_bitpacking.proofs.Natives.{unsigned_read}
use Rattle.fl_array.specs.BlockAnswers.{AreBlockAnswers}
use Rattle.fl_array.specs.Ranges.{items_fit}
use Rattle.fl_array.specs.Readers.{AreItemsFrom}
use Rattle.fl_array.specs.ReaderSources.{AreRunValues}
use Rattle.fl_array.specs.RLEArrays.{RLEArrayParts, refusal_of_rle, tree_of_rle}
use Rattle.fl_array.specs.Trees.{column}
use Rattle.fl_array.proofs.ReadRuns.{chunk_there, window_within}
use Rattle.fl_array.proofs.RLELaws.{item_of_rle, rle_len, sound_rle}

-- a run index is a natural number
natural_in : (ptype : PType) (z : ℤ) → is_unsigned ptype ≡ true → fits ptype z ≡ true → z ≡ pos (unsigned_abs z)
natural_in ptype z unsigned fit =
    let is : z ≡ pos (pattern_of ptype z) = sym (read_as-pattern_of ptype z fit) ∙ unsigned_read ptype (pattern_of ptype z) unsigned (pattern_small ptype z) in
    is ∙ ap (λ (w : ℤ). pos (unsigned_abs w)) (sym is)

natural : (d : DType) (z : ℤ) → is_run_index_dtype d ≡ true → fits_in d z ≡ true → z ≡ pos (unsigned_abs z)
natural (dtypes.Primitive U8 n) z typed h = natural_in U8 z refl h
natural (dtypes.Primitive U16 n) z typed h = natural_in U16 z refl h
natural (dtypes.Primitive U32 n) z typed h = cc
natural (dtypes.Primitive U64 n) z typed h = cc
natural (dtypes.Primitive I8 n) z typed h = cc
natural (dtypes.Primitive I16 n) z typed h = cc
natural (dtypes.Primitive I32 n) z typed h = cc
natural (dtypes.Primitive I64 n) z typed h = cc
natural (dtypes.Bool n) z typed h = cc

-- the run index of an item that is not null
index_of : (value : ℤ → ℤ) (count : ℕ) (d : DType) (x : Option ℤ) (z : ℤ) → option_map value x ≡ Some z → IsTrue (is_run_index count x) → is_run_index_dtype d ≡ true → option_all (fits_in d) x ≡ true → (k : ℕ) × (k < count) × (x ≡ Some (pos k)) × (value (pos k) ≡ z)
index_of value count d None z is named typed fit = cc
index_of value count d (Some y) z is named typed fit =
    let natural_is = natural d y typed fit in
    let item : value y ≡ z = cc in
    (unsigned_abs y, ltb-true (unsigned_abs y) count named, ap (λ (w : ℤ). Some w) natural_is, ap value (sym natural_is) ∙ item)

-- answers for the run indices of a chunk, which are those for the run values that they name, are answers for the items
pub names_answered : (names test : ℤ → Bool) (a : RLEArrayParts) (own : List ℤ) (bits : List ℕ) (j : ℕ) → refusal_of_rle a ≡ None → items_fit (column a.indices) ≡ true → AreRunValues a j own → ((k : ℕ) → k < length own → test (get_or own k (pos 0)) ≡ names (pos k))
    → AreBlockAnswers names bits j 0 (column a.indices) → AreBlockAnswers test bits j a.window.offset (column (tree_of_rle a))
names_answered names test a own bits j h fit are same answers = λ i z inside at e.
    let within = window_within a h in
    let room = within.1 in
    let len = rle_len a in
    let p = a.window.offset + i in
    let here : p < length (column a.indices).items = omega arith in
    let there = chunk_there a p h here in
    let start = chunk_start (numbers_of (column a.offsets)) (p / 1024) in
    let item : item_of_rle a i ≡ Some z = sym (get_or-table (item_of_rle a) a.window.len i None (omega arith)) ∙ e in
    let index = index_of (λ y. get_or (integers_in (column a.values)) (start + unsigned_abs y) (pos 0)) (run_count (numbers_of (column a.offsets)) (length (column a.values).items) (p / 1024)) (column a.indices).dtype (get_or (column a.indices).items p None) z item there.named (sound_rle a h).types.index
    (all_at (option_all (fits_in (column a.indices).dtype)) (column a.indices).items p None fit here) in
    let k = index.0 in
    let count : length own ≡ run_count (numbers_of (column a.offsets)) (length (column a.values).items) (p / 1024) = are.count ∙ ap (run_count (numbers_of (column a.offsets)) (length (column a.values).items)) (sym at) in
    let few : k < length own = subst (λ (n : ℕ). k < n) (sym count) index.1 in
    let first : 0 + p ≡ p = omega arith in
    let read = answers p (pos k) here (omega arith) index.2 in
    let own_is : get_or own k (pos 0) ≡ z = are.each k few ∙ (ap (λ (m : ℕ). get_or (integers_in (column a.values)) (chunk_start (numbers_of (column a.offsets)) m + k) (pos 0)) (sym at) ∙ index.3) in
    ap (λ (n : ℕ). has_bit bits (n % 1024)) (sym first) ∙ (read ∙ (sym (same k few) ∙ ap test own_is))

-- answers for the items of a block that were read
pub block_read : {Y : Type 0} (value : Y → ℤ) (test : ℤ → Bool) (c : Column) (read : List Y) (bits : List ℕ) (j : ℕ) → AreItemsFrom (1024 * j) 1024 (value_at value read) c → ((q : ℕ) → q < 1024 → has_bit bits q ≡ test (get_or (map value read) q (pos 0)))
    → AreBlockAnswers test bits j 0 c
unfolding value_at
block_read value test c read bits j items each = λ i z inside at e.
    let q = (0 + i) % 1024 in
    let small : q < 1024 = omega arith in
    let place : 1024 * j + q ≡ i = omega arith in
    each q small ∙ ap test (items q z small (ap (λ n. get_or c.items n None) place ∙ e))

-- the answer of a value is that which its place names
pub looked_up : (test : ℤ → Bool) (own : List ℤ) (answers : List ℕ) (k : ℕ) → k < 1024 → has_bit answers k ≡ test (get_or own k (pos 0)) → test (get_or own k (pos 0)) ≡ named_answer answers (pos k)
unfolding named_answer
looked_up test own answers k small is = let same : k ≡ k % 1024 = omega arith in sym is ∙ ap (has_bit answers) same

-- the chunk of a block of items has its run indices
pub chunk_room : (a : RLEArrayParts) (j : ℕ) → refusal_of_rle a ≡ None → j < chunk_count (a.window.offset + length (column (tree_of_rle a)).items) → 1024 * j + 1024 ≤ length (column a.indices).items
chunk_room a j h inside =
    let within = window_within a h in
    let room = within.1 in
    let s = sound_rle a h in
    let whole = s.types.whole in
    omega arith
