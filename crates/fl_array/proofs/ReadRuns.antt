-- Items of run-length encoded arrays that are read chunk by chunk.
use Rattle.std.proofs.Common.{◌≡◌, ℕ, ℤ, pos, ◌+◌, ◌-◌, ◌*◌, ◌/◌, ◌%◌, ◌<◌, ◌≤◌, true, false, List, ◌++◌, length, map, get_or, take, Option, Some, None, IsTrue, option_map, unsigned_abs, inl, inr, refl, ap, sym, subst, ◌∙◌, arith}
use Rattle.std.specs.Prelude.{IfSome, is_some, unwrap_or}
use Rattle.std.proofs.lemmas.Bool.{cases_lt, ltb-true}
use Rattle.std.proofs.lemmas.List.{length-map}
use Rattle.fl_types.specs.Integers.{is_unsigned}
use Rattle.fl_types.specs.Types.{is_nullable}
use Rattle.fl_column.specs.Columns.{Column, PrimitiveParts, column_of_primitive, integers_in, numbers_of}
use Rattle.fl_column.proofs.ListLaws.{all_at}
use Rattle.fl_codec.specs.Chunks.{chunk}
use Rattle.fl_codec.specs.RunColumns.{chunk_end, chunk_start, is_run_index, run_count, run_item}
use Rattle.fl_codec.proofs.ForwardFillLaws.{get_or-chunk}
use Rattle.fl_codec.proofs.RunDecoding.{whole_chunk}
use Rattle.fl_codec.proofs.RunSlices.{end_within}
use Rattle.fl_codec.proofs.SliceParts.{integer_before, integer_inside}
use Rattle.fl_codec.proofs.Tables.{get_or-table}
use Rattle.fl_bitpacking.specs.Blocks.{value_at}
use Rattle.fl_array.specs.NoNulls.{HasNoNulls}
use Rattle.fl_array.specs.Readers.{AreItemsFrom}
use Rattle.fl_array.specs.ReaderSources.{AreRunValues}
use Rattle.fl_array.specs.RLEArrays.{RLEArrayParts, refusal_of_rle, tree_of_rle}
use Rattle.fl_array.specs.Trees.{column}
use Rattle.fl_array.proofs.RLELaws.{item_of_rle, offsets_unsigned, read_slots, rle_len, sound_rle}

-- the items lie among the run indices
pub window_within : (a : RLEArrayParts) → refusal_of_rle a ≡ None → (a.window.offset < 1024) × (a.window.offset + length (column (tree_of_rle a)).items ≤ length (column a.indices).items)
window_within a h = let types = (sound_rle a h).types in let len = rle_len a in let range = types.range in (types.low, omega arith)

-- the chunk of a run index has run values, and they lie among all
pub record IsThere (a : RLEArrayParts) (p : ℕ) : Type 0 where
  pub range : p / 1024 < length (column a.offsets).items
  pub some : chunk_start (numbers_of (column a.offsets)) (p / 1024) < chunk_end (numbers_of (column a.offsets)) (length (column a.values).items) (p / 1024)
  pub within : chunk_end (numbers_of (column a.offsets)) (length (column a.values).items) (p / 1024) ≤ length (column a.values).items
  pub named : IsTrue (is_run_index (run_count (numbers_of (column a.offsets)) (length (column a.values).items) (p / 1024)) (get_or (column a.indices).items p None))

pub chunk_there : (a : RLEArrayParts) (p : ℕ) → refusal_of_rle a ≡ None → p < length (column a.indices).items → IsThere a p
chunk_there a p h inside =
    let s = sound_rle a h in
    let whole = s.whole in
    let long = s.long in
    let k = p / 1024 in
    let indices = (column a.indices).items in
    let offsets = numbers_of (column a.offsets) in
    let count = length (column a.values).items in
    let range : k < length offsets = omega arith in
    let room : 1024 * (k + 1) ≤ length indices = omega arith in
    let q = p % 1024 in
    let small : q < 1024 = omega arith in
    let place : 1024 * k + q ≡ p = omega arith in
    let size = whole_chunk indices k room in
    let each : is_run_index (run_count offsets count k) (get_or (chunk k indices) q None) ≡ true = all_at (is_run_index (run_count offsets count k)) (chunk k indices) q None (s.numbers.named k range) (omega arith) in
    record {
      range = omega arith;
      some = s.numbers.some k range;
      within = end_within count indices offsets k s.numbers range;
      named = subst (λ x. is_run_index (run_count offsets count k) x ≡ true) (get_or-chunk indices k q None small ∙ ap (λ n. get_or indices n None) place) each;
    }

-- the decoded run values are as many as the array's
pub stored_values : {X : Type 0} (value : X → ℤ) (a : RLEArrayParts) (p : PrimitiveParts) (xs : List X) → refusal_of_rle a ≡ None → column_of_primitive p ≡ column a.values → map value xs ≡ p.slots → length xs ≡ length (column a.values).items
stored_values value a p xs h own slots =
    let types = (sound_rle a h).types in
    sym (length-map xs value) ∙ (ap length (slots ∙ read_slots p (column a.values) own types.non_nullable) ∙ length-map (column a.values).items (λ (item : Option ℤ). unwrap_or item (pos 0)))

-- the same by the decoded run offsets
pub record IsOwn (offsets : PrimitiveParts) (count k : ℕ) : Type 0 where
  pub unsigned : is_unsigned offsets.ptype ≡ true
  pub range : k < length offsets.slots
  pub some : chunk_start (numbers_of (column_of_primitive offsets)) k < chunk_end (numbers_of (column_of_primitive offsets)) count k
  pub within : chunk_end (numbers_of (column_of_primitive offsets)) count k ≤ count

pub own_chunk : (a : RLEArrayParts) (offsets : PrimitiveParts) (count total k : ℕ) → refusal_of_rle a ≡ None → column_of_primitive offsets ≡ column a.offsets → count ≡ length (column a.values).items → total ≡ length offsets.slots → total ≡ length (column_of_primitive offsets).items → 1024 * k < length (column a.indices).items
    → IsOwn offsets count k
own_chunk a offsets count total k h own count_is slots items inside =
    let there = chunk_there a (1024 * k) h inside in
    let block : 1024 * k / 1024 ≡ k = omega arith in
    let numbers : numbers_of (column_of_primitive offsets) ≡ numbers_of (column a.offsets) = ap numbers_of own in
    let long : length (column_of_primitive offsets).items ≡ length (column a.offsets).items = ap (λ (c : Column). length c.items) own in
    let range = there.range in
    record {
      unsigned = offsets_unsigned a offsets h own;
      range = omega arith;
      some = rw (numbers, count_is, ← block) there.some;
      within = rw (numbers, count_is, ← block) there.within;
    }

-- the run values of a chunk, by the decoded run values and run offsets
pub own_values : {X : Type 0} (value : X → ℤ) (a : RLEArrayParts) (values offsets : PrimitiveParts) (xs own : List X) (k : ℕ) → refusal_of_rle a ≡ None → column_of_primitive values ≡ column a.values → column_of_primitive offsets ≡ column a.offsets
    → map value xs ≡ values.slots → length xs ≡ length (column a.values).items → 1024 * k < length (column a.indices).items → length own ≡ run_count (numbers_of (column_of_primitive offsets)) (length xs) k
    → ((i : ℕ) → i < length own → get_or (map value own) i (pos 0) ≡ get_or (map value xs) (chunk_start (numbers_of (column_of_primitive offsets)) k + i) (pos 0)) → AreRunValues a k (map value own)
own_values value a values offsets xs own k h v o slots all inside long each =
    let s = sound_rle a h in
    let types = s.types in
    let there = chunk_there a (1024 * k) h inside in
    let block : 1024 * k / 1024 ≡ k = omega arith in
    let names = numbers_of (column a.offsets) in
    let count = length (column a.values).items in
    let numbers : numbers_of (column_of_primitive offsets) ≡ names = ap numbers_of o in
    let stored : map value xs ≡ integers_in (column a.values) = slots ∙ read_slots values (column a.values) v types.non_nullable in
    let size : length (map value own) ≡ run_count names count k = length-map own value ∙ (long ∙ rw (numbers, all) refl) in
    let range : k < length names = let whole = s.whole in omega arith in
    let few = s.numbers.few k range in
    let some = s.numbers.some k range in
    record {
      some = omega arith;
      few = omega arith;
      count = size;
      each = λ i below. each i (omega (arith, length-map own value)) ∙ rw (stored, numbers) refl;
    }

-- what is written for a run index stands for its item
shown : (values : List ℤ) (start count : ℕ) (x : Option ℤ) (index new : ℤ) → IsTrue (is_run_index count x) → ((y : ℤ) → x ≡ Some y → index ≡ y) → (unsigned_abs index < count → new ≡ get_or values (start + unsigned_abs index) (pos 0))
    → IfSome (option_map (λ i. get_or values (start + unsigned_abs i) (pos 0)) x) (λ z. new ≡ z)
shown values start count None index new named read written = tt
shown values start count (Some y) index new named read written =
    let is : index ≡ y = read y refl in
    let below : unsigned_abs index < count = rw is (ltb-true (unsigned_abs y) count named) in
    written below ∙ ap (λ i. get_or values (start + unsigned_abs i) (pos 0)) is

-- items that are written by the run indices that were read
pub chunk_shown : {X Y : Type 0} (value : X → ℤ) (index : Y → ℤ) (a : RLEArrayParts) (indices : Column) (own new : List X) (names : List Y) (at n i : ℕ) → refusal_of_rle a ≡ None → indices ≡ column a.indices → AreRunValues a (at / 1024) (map value own)
    → at + n ≤ length indices.items → at % 1024 + n ≤ 1024 → i < n → AreItemsFrom at n (value_at index names) indices
    → (unsigned_abs (get_or (map index names) i (pos 0)) < length own → get_or (map value new) i (pos 0) ≡ get_or (map value own) (unsigned_abs (get_or (map index names) i (pos 0))) (pos 0))
    → IfSome (run_item (integers_in (column a.values)) (column a.indices).items (numbers_of (column a.offsets)) (at + i)) (λ z. value_at value new i ≡ z)
unfolding value_at
chunk_shown value index a indices own new names at n i h same are room one inside read written =
    let within : at + i < length (column a.indices).items = let there = ap (λ (c : Column). length c.items) same in omega arith in
    let there = chunk_there a (at + i) h within in
    let block : (at + i) / 1024 ≡ at / 1024 = omega arith in
    let count = are.count in
    let name = get_or (map index names) i (pos 0) in
    shown (integers_in (column a.values)) (chunk_start (numbers_of (column a.offsets)) ((at + i) / 1024)) (run_count (numbers_of (column a.offsets)) (length (column a.values).items) ((at + i) / 1024)) (get_or (column a.indices).items (at + i) None) name (get_or (map value new) i (pos 0))
    there.named (λ y e. read i y inside (ap (λ (c : Column). get_or c.items (at + i) None) same ∙ e))
    (λ below. let few : unsigned_abs name < length (map value own) = rw (count, ← block) below in
    written (rw length-map at few) ∙ (are.each (unsigned_abs name) few ∙ ap (λ k. get_or (integers_in (column a.values)) (chunk_start (numbers_of (column a.offsets)) k + unsigned_abs name) (pos 0)) (sym block)))

below_count : (count : ℕ) (x : Option ℤ) (index : ℤ) → is_some x ≡ true → IsTrue (is_run_index count x) → ((y : ℤ) → x ≡ Some y → index ≡ y) → unsigned_abs index < count
below_count count None index some named read = cc
below_count count (Some y) index some named read = let is : index ≡ y = read y refl in rw is (ltb-true (unsigned_abs y) count named)

-- where no run index may be null, each one that was read names a run value
pub names_below : {Y : Type 0} (index : Y → ℤ) (a : RLEArrayParts) (indices : Column) (names : List Y) (at n i count : ℕ) → refusal_of_rle a ≡ None → indices ≡ column a.indices → HasNoNulls indices → is_nullable indices.dtype ≡ false
    → at + n ≤ length indices.items → at % 1024 + n ≤ 1024 → i < n → AreItemsFrom at n (value_at index names) indices → count ≡ run_count (numbers_of (column a.offsets)) (length (column a.values).items) (at / 1024) → unsigned_abs (get_or (map index names) i (pos 0)) < count
unfolding value_at
names_below index a indices names at n i count h same never none room one inside read count_is =
    let within : at + i < length (column a.indices).items = let there = ap (λ (c : Column). length c.items) same in omega arith in
    let there = chunk_there a (at + i) h within in
    let block : (at + i) / 1024 ≡ at / 1024 = omega arith in
    let named : IsTrue (is_run_index count (get_or indices.items (at + i) None)) = rw (count_is, same, ← block) there.named in
    below_count count (get_or indices.items (at + i) None) (get_or (map index names) i (pos 0)) (never none (at + i) (omega arith)) named (λ y e. read i y inside e)

-- items before a chunk, and those of the chunk
pub runs_joined : {X : Type 0} (value : X → ℤ) (item : ℕ → Option ℤ) (items new rest : List X) (from to i : ℕ) → from ≤ length items → length new ≡ to - from → ((k : ℕ) → k < from → IfSome (item k) (λ z. value_at value items k ≡ z))
    → ((k : ℕ) → k < to - from → IfSome (item (from + k)) (λ z. value_at value new k ≡ z)) → i < to → IfSome (item i) (λ z. value_at value (take from items ++ (new ++ rest)) i ≡ z)
unfolding value_at
runs_joined value item items new rest from to i room long before more h = elim (cases_lt i from) [
  | inl below ↦ subst (λ n. IfSome (item i) (λ z. n ≡ z)) (sym (integer_before value items new rest from i room below)) (before i below)
  | inr above ↦
      let at : from + (i - from) ≡ i = omega arith in
      subst (λ n. IfSome (item i) (λ z. n ≡ z)) (sym (integer_inside value items new rest from i room above (omega arith)))
      (subst (λ p. IfSome (item p) (λ z. get_or (map value new) (i - from) (pos 0) ≡ z)) at (more (i - from) (omega arith)))
]

some_is : (x : Option ℤ) (z new : ℤ) → x ≡ Some z → IfSome x (λ y. new ≡ y) → new ≡ z
some_is None z new e is = cc
some_is (Some y) z new e is = let same : y ≡ z = cc in is ∙ same

-- the items of the chunks are those of the array
pub runs_shown : (a : RLEArrayParts) (integer : ℕ → ℤ) (first start n : ℕ) → first ≡ a.window.offset + start → start + n ≤ length (column (tree_of_rle a)).items
    → ((i : ℕ) → i < n → IfSome (run_item (integers_in (column a.values)) (column a.indices).items (numbers_of (column a.offsets)) (first + i)) (λ z. integer i ≡ z)) → AreItemsFrom start n integer (column (tree_of_rle a))
runs_shown a integer first start n first_is room each = λ i z h e.
    let len = rle_len a in
    let place : first + i ≡ a.window.offset + (start + i) = omega arith in
    let item : item_of_rle a (start + i) ≡ Some z = sym (get_or-table (item_of_rle a) a.window.len (start + i) None (omega arith)) ∙ e in
    some_is (item_of_rle a (start + i)) z (integer i) item (subst (λ p. IfSome (run_item (integers_in (column a.values)) (column a.indices).items (numbers_of (column a.offsets)) p) (λ z. integer i ≡ z)) place (each i h))
