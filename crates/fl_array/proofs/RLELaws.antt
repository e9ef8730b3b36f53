-- Run-length encoded arrays: their column, items and slices.
use Rattle.std.proofs.Common.{◌≡◌, ℕ, ℤ, pos, ◌+◌, ◌-◌, ◌*◌, ◌/◌, ◌%◌, ◌<◌, ◌≤◌, List, length, get_or, refl, ap, subst, sym, ◌∙◌, true, false, None, Some, Ok, Err, IsTrue, arith}
use Rattle.std.specs.Prelude.{IfOk, Option, Result, is_none, is_some, option_map, unsigned_abs, unwrap_or}
use Rattle.std.proofs.lemmas.Bool.{le-ltb, lt-ltb}
use Rattle.std.proofs.lemmas.List.{get_or-map}
use Rattle.fl_types.specs.declared.dtype.DType.{DType}
use Rattle.fl_types.specs.declared.dtype.DType.TheVariants as dtypes
use Rattle.fl_types.specs.declared.dtype.PType.{PType}
use Rattle.fl_types.specs.declared.dtype.PType.TheVariants.{U8}
use Rattle.fl_types.specs.declared.dtype.Nullability.{Nullability}
use Rattle.fl_types.specs.declared.dtype.Nullability.TheVariants.{NonNullable, Nullable}
use Rattle.fl_types.specs.declared.validity.Validity.{Validity}
use Rattle.fl_types.specs.declared.error.FastLanesError.{FastLanesError}
use Rattle.fl_types.specs.declared.scalar.Scalar.{Scalar}
use Rattle.fl_types.specs.declared.scalar.Scalar.TheVariants as scalars
use Rattle.fl_types.specs.Refusals.{Answers}
use Rattle.fl_types.specs.Integers.{is_unsigned}
use Rattle.fl_types.specs.Types.{is_index_type, can_be_null, integer_type, is_integer, is_nullable, nullability_in, with_nullability}
use Rattle.fl_types.specs.Validities.{covers, is_valid_at, nullability_of, validity_between}
use Rattle.fl_types.specs.Values.{ScalarParts, scalar_parts}
use Rattle.fl_column.specs.Columns.{Column, PrimitiveParts, column_of_primitive, integers_in, numbers_of, ptype_of_column}
use Rattle.fl_column.specs.Operations.{slice_of}
use Rattle.fl_column.specs.Queries.{scalar_in}
use Rattle.fl_column.proofs.ItemLaws.{nullability_of-between}
use Rattle.fl_codec.specs.Parts.{RunParts}
use Rattle.fl_codec.specs.RunColumns.{chunk_start, run_column, run_item}
use Rattle.fl_codec.specs.RunRefusals.{rle_refusal, rle_types_refusal, kept_values_start, kept_values_end}
use Rattle.fl_codec.specs.ChunkSlices.{end_chunk, first_chunk}
use Rattle.fl_codec.proofs.DeltaSlices.{covers_part}
use Rattle.fl_codec.proofs.FoRSlices.{non_nullable_slots}
use Rattle.fl_codec.proofs.ColumnParts.{length-numbers_of, unsigned_positions, valid-between}
use Rattle.fl_codec.proofs.RunTypes.{HaveRunTypes, have_types}
use Rattle.fl_codec.proofs.RunSlices.{AreRunNumbers, numbers_sound, place_within, run_slice_items, run_slice_sound, values_in_order, values_within}
use Rattle.fl_codec.proofs.FirstRefusals.{neither}
use Rattle.fl_codec.proofs.Tables.{get_or-table, length-table}
use Rattle.fl_array.specs.RLEArrays.{RLEArrayParts, refusal_of_rle, tree_of_rle}
use Rattle.fl_array.specs.Reads.{IsValidityOf}
use Rattle.fl_array.specs.Trees.{Tree, OffsetLen, column, column_of_rle}
use Rattle.fl_array.proofs.BlockedLaws.{number_read}

-- an item of the column
abbrev pub item_of_rle : RLEArrayParts → ℕ → Option ℤ
item_of_rle a i = run_item (integers_in (column a.values)) (column a.indices).items (numbers_of (column a.offsets)) (a.window.offset + i)

pub rle_len : (a : RLEArrayParts) → length (column (tree_of_rle a)).items ≡ a.window.len
rle_len a = length-table (item_of_rle a) a.window.len

-- what is known of an array's parts
pub record AreSound (a : RLEArrayParts) : Type 0 where
  pub types : HaveRunTypes (column a.values) (column a.indices) (column a.offsets) a.window.offset a.window.len
  pub numbers : AreRunNumbers (length (column a.values).items) (column a.indices).items (numbers_of (column a.offsets))
  pub long : length (numbers_of (column a.offsets)) ≡ length (column a.offsets).items
  pub whole : length (column a.indices).items ≡ 1024 * length (numbers_of (column a.offsets))

pub sound_rle : (a : RLEArrayParts) → refusal_of_rle a ≡ None → AreSound a
sound_rle a h =
    let values = column a.values in
    let indices = column a.indices in
    let offsets = column a.offsets in
    let both = neither (rle_types_refusal values.dtype indices.dtype offsets.dtype (length indices.items) (length offsets.items) a.window.offset a.window.len) _ h in
    let types = have_types values indices offsets a.window.offset a.window.len both.0 in
    let long = length-numbers_of offsets in
    let rest = types.whole in
    let count = types.count in
    record {
      types = types;
      numbers = numbers_sound (length values.items) indices.items (numbers_of offsets) both.1;
      long = long;
      whole = omega arith;
    }

-- ---- types
non_nullable_is : (n : Nullability) → can_be_null n ≡ false → n ≡ NonNullable
non_nullable_is NonNullable h = refl
non_nullable_is Nullable h = cc

-- ---- validity
index_there : (values : List ℤ) (start : ℕ) (x : Option ℤ) → is_some x ≡ is_some (option_map (λ index. get_or values (start + unsigned_abs index) (pos 0)) x)
index_there values start None = refl
index_there values start (Some z) = refl

pub rle_validity : (a : RLEArrayParts) (v : Validity) → refusal_of_rle a ≡ None → IsValidityOf v (column a.indices) → IsValidityOf (validity_between a.window.offset (a.window.offset + a.window.len) v) (column (tree_of_rle a))
rle_validity a v h s =
    let sound = sound_rle a h in
    let types = sound.types in
    let range = types.range in
    let long = rle_len a in
    let size : a.window.offset + a.window.len - a.window.offset ≡ a.window.len = omega arith in
    let covered = covers_part v (length (column a.indices).items) a.window.offset (a.window.offset + a.window.len) s.covered (omega arith) range in
    let covers_so_many : ℕ → Type 0 = λ n. IsTrue (covers (validity_between a.window.offset (a.window.offset + a.window.len) v) n) in
    record {
      covered = rw long (subst covers_so_many size covered);
      nullable = nullability_of-between v a.window.offset (a.window.offset + a.window.len) ∙ s.nullable;
      valid = λ i l.
          let inside : i < a.window.len = rw (← long) l in
          let here : is_valid_at (validity_between a.window.offset (a.window.offset + a.window.len) v) i ≡ is_valid_at v (a.window.offset + i) = valid-between v a.window.offset (a.window.offset + a.window.len) i (omega arith) in
          here ∙ s.valid (a.window.offset + i) (omega arith)
          ∙ index_there (integers_in (column a.values)) (chunk_start (numbers_of (column a.offsets)) ((a.window.offset + i) / 1024)) (get_or (column a.indices).items (a.window.offset + i) None)
          ∙ ap (λ x. is_some x) (sym (get_or-table (item_of_rle a) a.window.len i None inside));
    }

-- ---- the column
pub read_slots : (p : PrimitiveParts) (c : Column) → column_of_primitive p ≡ c → is_nullable c.dtype ≡ false → p.slots ≡ integers_in c
read_slots p c e h =
    let non_nullable : nullability_of p.validity ≡ NonNullable = non_nullable_is (nullability_of p.validity) (ap (λ (x : Column). is_nullable x.dtype) e ∙ h) in
    sym (non_nullable_slots p non_nullable) ∙ ap integers_in e

same_refusal : (v w i j o p : Column) (offset len : ℕ) → v ≡ w → i ≡ j → o ≡ p → rle_refusal w j p offset len ≡ None → rle_refusal v i o offset len ≡ None
same_refusal v w i j o p offset len e f g h = rw (e, f, g) h

pub decoded_column : (a : RLEArrayParts) (parts : RunParts) → refusal_of_rle a ≡ None → column_of_primitive parts.values ≡ column a.values → column_of_primitive parts.indices ≡ column a.indices → column_of_primitive parts.offsets ≡ column a.offsets
    → run_column parts a.window.offset a.window.len ≡ column_of_rle (column a.values) (column a.indices) (column a.offsets) a.window
decoded_column a parts h e f g =
    let types = (sound_rle a h).types in
    let slots = read_slots parts.values (column a.values) e types.non_nullable in
    let ptype : parts.values.ptype ≡ ptype_of_column (column a.values) = ap (λ (x : Column). ptype_of_column x) e in
    let items : (column_of_primitive parts.indices).items ≡ (column a.indices).items = ap (λ (x : Column). x.items) f in
    let nullable : nullability_of parts.indices.validity ≡ nullability_in (column a.indices).dtype = ap (λ (x : Column). nullability_in x.dtype) f in
    let numbers : numbers_of (column_of_primitive parts.offsets) ≡ numbers_of (column a.offsets) = ap numbers_of g in
    rw (slots, ptype, items, nullable, numbers) refl

-- ---- items
-- a type of integers with a nullability
typed : (d : DType) (n : Nullability) → is_integer d ≡ true → with_nullability n d ≡ dtypes.Primitive (unwrap_or (integer_type d) U8) n
typed (dtypes.Primitive p m) n h = refl
typed (dtypes.Bool m) n h = cc

scalar_item : (a : RLEArrayParts) (i : ℕ) → i < a.window.len → scalar_in (column (tree_of_rle a)) i ≡ record { dtype = (column (tree_of_rle a)).dtype; value = item_of_rle a i }
scalar_item a i h = ap (λ (v : Option ℤ). record { dtype = (column (tree_of_rle a)).dtype; value = v }) (get_or-table (item_of_rle a) a.window.len i None h)

-- an item whose index is null
pub null_item : (a : RLEArrayParts) (i : ℕ) (index value : ScalarParts) → refusal_of_rle a ≡ None → i < a.window.len → index ≡ scalar_in (column a.indices) (a.window.offset + i) → value.dtype ≡ (column a.values).dtype
    → index.value ≡ None → nullability_in index.dtype ≡ Nullable → record { dtype = with_nullability Nullable value.dtype; value = None } ≡ scalar_in (column (tree_of_rle a)) i
null_item a i index value h r e t none nullable =
    let types = (sound_rle a h).types in
    let item : get_or (column a.indices).items (a.window.offset + i) None ≡ None = ap (λ (x : ScalarParts). x.value) (sym e) ∙ none in
    let may : nullability_in (column a.indices).dtype ≡ Nullable = ap (λ (x : ScalarParts). nullability_in x.dtype) (sym e) ∙ nullable in
    let dtype = typed (column a.values).dtype Nullable types.integer in
    rw (scalar_item a i r, t, dtype, may, item) refl

-- an item with an index
pub named_item : (a : RLEArrayParts) (i : ℕ) (index value : ScalarParts) (p : PType) (z n : ℤ) → refusal_of_rle a ≡ None → i < a.window.len → index ≡ scalar_in (column a.indices) (a.window.offset + i)
    → value ≡ scalar_in (column a.values) (chunk_start (numbers_of (column a.offsets)) ((a.window.offset + i) / 1024) + unsigned_abs (unwrap_or index.value (pos 0)))
    → index.value ≡ Some z → value.value ≡ Some n → integer_type value.dtype ≡ Some p → record { dtype = dtypes.Primitive p (nullability_in index.dtype); value = Some n } ≡ scalar_in (column (tree_of_rle a)) i
named_item a i index value p z n h r e f some is t =
    let sound = sound_rle a h in
    let c = column a.values in
    let start = chunk_start (numbers_of (column a.offsets)) ((a.window.offset + i) / 1024) in
    let item : get_or (column a.indices).items (a.window.offset + i) None ≡ Some z = ap (λ (x : ScalarParts). x.value) (sym e) ∙ some in
    let types = sound.types in
    let range = types.range in
    let whole = sound.whole in
    let within = place_within (length c.items) (column a.indices).items (numbers_of (column a.offsets)) (a.window.offset + i) (Some z) sound.numbers (omega arith) whole item in
    let place : unsigned_abs (unwrap_or index.value (pos 0)) ≡ unsigned_abs z = ap (λ (x : Option ℤ). unsigned_abs (unwrap_or x (pos 0))) some in
    let at : get_or c.items (start + unsigned_abs z) None ≡ Some n = ap (λ k. get_or c.items (start + k) None) (sym place) ∙ (ap (λ (x : ScalarParts). x.value) (sym f) ∙ is) in
    let integer : get_or (integers_in c) (start + unsigned_abs z) (pos 0) ≡ n = get_or-map (λ x. unwrap_or x (pos 0)) c.items (start + unsigned_abs z) None (pos 0) within ∙ ap (λ (x : Option ℤ). unwrap_or x (pos 0)) at in
    let ptype : unwrap_or (integer_type c.dtype) U8 ≡ p = ap (λ (x : ScalarParts). unwrap_or (integer_type x.dtype) U8) (sym f) ∙ ap (λ (x : Option PType). unwrap_or x U8) t in
    let may : nullability_in index.dtype ≡ nullability_in (column a.indices).dtype = ap (λ (x : ScalarParts). nullability_in x.dtype) e in
    rw (scalar_item a i r, ptype, may, item, integer) refl

-- ---- what a slice keeps
pub kept_refusal : (a : RLEArrayParts) (values indices offsets : Tree) (o start end : ℕ) → refusal_of_rle a ≡ None → start ≤ end → end ≤ a.window.len
    → column values ≡ slice_of (kept_values_start (numbers_of (column a.offsets)) (first_chunk a.window.offset start) (end_chunk a.window.offset end)) (kept_values_end (numbers_of (column a.offsets)) (length (column a.values).items) (first_chunk a.window.offset start) (end_chunk a.window.offset end)) (column a.values)
    → column indices ≡ slice_of (1024 * first_chunk a.window.offset start) (1024 * end_chunk a.window.offset end) (column a.indices)
    → column offsets ≡ slice_of (first_chunk a.window.offset start) (end_chunk a.window.offset end) (column a.offsets)
    → o ≡ (a.window.offset + start) % 1024 → rle_refusal (column values) (column indices) (column offsets) o (end - start) ≡ None
kept_refusal a values indices offsets o start end h order range e f g k =
    rw k (same_refusal _ _ _ _ _ _ ((a.window.offset + start) % 1024) (end - start) e f g (run_slice_sound (column a.values) (column a.indices) (column a.offsets) a.window.offset a.window.len start end h order range))

same_named : (v w i j o p : Column) (x : OffsetLen) → v ≡ w → i ≡ j → o ≡ p → column_of_rle v i o x ≡ column_of_rle w j p x
same_named v w i j o p x e f g = rw (e, f, g) refl

pub kept_column : (a : RLEArrayParts) (values indices offsets : Tree) (o start end : ℕ) → refusal_of_rle a ≡ None → start ≤ end → end ≤ a.window.len
    → column values ≡ slice_of (kept_values_start (numbers_of (column a.offsets)) (first_chunk a.window.offset start) (end_chunk a.window.offset end)) (kept_values_end (numbers_of (column a.offsets)) (length (column a.values).items) (first_chunk a.window.offset start) (end_chunk a.window.offset end)) (column a.values)
    → column indices ≡ slice_of (1024 * first_chunk a.window.offset start) (1024 * end_chunk a.window.offset end) (column a.indices)
    → column offsets ≡ slice_of (first_chunk a.window.offset start) (end_chunk a.window.offset end) (column a.offsets)
    → o ≡ (a.window.offset + start) % 1024 → column_of_rle (column values) (column indices) (column offsets) (record { offset = o; len = end - start }) ≡ slice_of start end (column_of_rle (column a.values) (column a.indices) (column a.offsets) a.window)
kept_column a values indices offsets o start end h order range e f g k =
    let to_window : ℕ → OffsetLen = λ n. record { offset = n; len = end - start } in
    ap (λ (n : ℕ). column_of_rle (column values) (column indices) (column offsets) (to_window n)) k
    ∙ same_named _ _ _ _ _ _ (to_window ((a.window.offset + start) % 1024)) e f g
    ∙ ap (λ (xs : List (Option ℤ)). record { dtype = (column (tree_of_rle a)).dtype; items = xs }) (run_slice_items (column a.values) (column a.indices) (column a.offsets) a.window.offset a.window.len start end h order range)

-- where the run values of a chunk start, as it was read
pub record StartRead (a : RLEArrayParts) (k first start : ℕ) : Type 0 where
  pub low : first ≤ start
  pub place : start - first ≡ chunk_start (numbers_of (column a.offsets)) k

pub start_read : (a : RLEArrayParts) (k : ℕ) (first start : ScalarParts) (n0 n1 : ℕ) → refusal_of_rle a ≡ None → k < length (column a.offsets).items → first ≡ scalar_in (column a.offsets) 0 → start ≡ scalar_in (column a.offsets) k
    → n0 ≡ unsigned_abs (unwrap_or first.value (pos 0)) → n1 ≡ unsigned_abs (unwrap_or start.value (pos 0)) → StartRead a k n0 n1
start_read a k first start n0 n1 h r f g is0 is1 =
    let sound = sound_rle a h in
    let long = sound.long in
    let x = number_read (column a.offsets) 0 first n0 (omega arith) f is0 in
    let y = number_read (column a.offsets) k start n1 r g is1 in
    let above = sound.numbers.low k (omega arith) in
    record {
      low = rw (x, y) above;
      place = rw (x, y) refl;
    }

-- the run value of an item lies among all of them
pub value_read : (a : RLEArrayParts) (i : ℕ) (index : ScalarParts) (start number : ℕ) → refusal_of_rle a ≡ None → i < a.window.len → index ≡ scalar_in (column a.indices) (a.window.offset + i)
    → start ≡ chunk_start (numbers_of (column a.offsets)) ((a.window.offset + i) / 1024) → number ≡ unsigned_abs (unwrap_or index.value (pos 0)) → start + number < length (column a.values).items
value_read a i index start number h r e f is =
    let sound = sound_rle a h in
    let types = sound.types in
    let range = types.range in
    let whole = sound.whole in
    let long = sound.long in
    let item : get_or (column a.indices).items (a.window.offset + i) None ≡ index.value = ap (λ (c : ScalarParts). c.value) (sym e) in
    let within = place_within (length (column a.values).items) (column a.indices).items (numbers_of (column a.offsets)) (a.window.offset + i) index.value sound.numbers (omega arith) whole item in
    rw (f, is) within

-- the positions of a chunk are those of run indices
pub chunk_within : (a : RLEArrayParts) (k : ℕ) → refusal_of_rle a ≡ None → k < length (column a.offsets).items → 1024 * k + 1024 ≤ length (column a.indices).items
chunk_within a k h r =
    let sound = sound_rle a h in
    let whole = sound.whole in
    let long = sound.long in
    omega arith

-- what a slice keeps lies where it should
pub record KeepsRuns (a : RLEArrayParts) (start end : ℕ) : Type 0 where
  pub chunks : end_chunk a.window.offset end ≤ length (column a.offsets).items
  pub indices : 1024 * end_chunk a.window.offset end ≤ length (column a.indices).items
  pub order : kept_values_start (numbers_of (column a.offsets)) (first_chunk a.window.offset start) (end_chunk a.window.offset end) ≤ kept_values_end (numbers_of (column a.offsets)) (length (column a.values).items) (first_chunk a.window.offset start) (end_chunk a.window.offset end)
  pub within : kept_values_end (numbers_of (column a.offsets)) (length (column a.values).items) (first_chunk a.window.offset start) (end_chunk a.window.offset end) ≤ length (column a.values).items
  pub shown : a.window.offset + end ≤ length (column a.indices).items

pub kept_by_slice : (a : RLEArrayParts) (start end : ℕ) → refusal_of_rle a ≡ None → start ≤ end → end ≤ a.window.len → KeepsRuns a start end
kept_by_slice a start end h order room =
    let sound = sound_rle a h in
    let types = sound.types in
    let range = types.range in
    let rest = types.whole in
    let count = types.count in
    let whole = sound.whole in
    let long = sound.long in
    record {
      chunks = omega arith;
      indices = omega arith;
      order = values_in_order (length (column a.values).items) (column a.indices).items (numbers_of (column a.offsets)) (first_chunk a.window.offset start) (end_chunk a.window.offset end) sound.numbers (omega arith) (omega arith);
      within = values_within (length (column a.values).items) (column a.indices).items (numbers_of (column a.offsets)) (first_chunk a.window.offset start) (end_chunk a.window.offset end) sound.numbers (omega arith);
      shown = omega arith;
    }

-- where the run values that a slice keeps start and end, as it was read
pub record IsKept (a : RLEArrayParts) (start end low high : ℕ) : Type 0 where
  pub from : low ≡ kept_values_start (numbers_of (column a.offsets)) (first_chunk a.window.offset start) (end_chunk a.window.offset end)
  pub to : high ≡ kept_values_end (numbers_of (column a.offsets)) (length (column a.values).items) (first_chunk a.window.offset start) (end_chunk a.window.offset end)
  pub order : low ≤ high
  pub within : high ≤ length (column a.values).items

start_of_some : (offsets : List ℕ) (first last : ℕ) → first < last → chunk_start offsets first ≡ kept_values_start offsets first last
start_of_some offsets first last some = rw (lt-ltb first last some) refl

end_before : (offsets : List ℕ) (count first last : ℕ) → first < last → last < length offsets → chunk_start offsets last ≡ kept_values_end offsets count first last
end_before offsets count first last some more =
    let behind : last - 1 + 1 ≡ last = omega arith in
    rw (lt-ltb first last some, behind, lt-ltb last (length offsets) more) refl

end_of_all : (offsets : List ℕ) (count first last : ℕ) → first < last → length offsets ≤ last → count ≡ kept_values_end offsets count first last
end_of_all offsets count first last some all =
    let behind : last - 1 + 1 ≡ last = omega arith in
    rw (lt-ltb first last some, behind, le-ltb last (length offsets) all) refl

kept_as : (a : RLEArrayParts) (start end low high : ℕ) → KeepsRuns a start end
    → low ≡ kept_values_start (numbers_of (column a.offsets)) (first_chunk a.window.offset start) (end_chunk a.window.offset end)
    → high ≡ kept_values_end (numbers_of (column a.offsets)) (length (column a.values).items) (first_chunk a.window.offset start) (end_chunk a.window.offset end)
    → IsKept a start end low high
kept_as a start end low high keeps e f = record { from = e; to = f; order = rw (e, f) keeps.order; within = rw f keeps.within }

-- up to the chunk behind those that are kept
pub kept_before : (a : RLEArrayParts) (start end first last low high : ℕ) → refusal_of_rle a ≡ None → start ≤ end → end ≤ length (column (tree_of_rle a)).items
    → first ≡ first_chunk a.window.offset start → last ≡ end_chunk a.window.offset end → first_chunk a.window.offset start < end_chunk a.window.offset end → last < length (column a.offsets).items
    → low ≡ chunk_start (numbers_of (column a.offsets)) first → high ≡ chunk_start (numbers_of (column a.offsets)) last → IsKept a start end low high
kept_before a start end first last low high h order range f g some more e k =
    let long = (sound_rle a h).long in
    let more_numbers : last < length (numbers_of (column a.offsets)) = rw long more in
    let low_is = ap (chunk_start (numbers_of (column a.offsets))) f ∙ start_of_some (numbers_of (column a.offsets)) _ _ some in
    let high_is = ap (chunk_start (numbers_of (column a.offsets))) g ∙ end_before (numbers_of (column a.offsets)) (length (column a.values).items) _ _ some (rw g at more_numbers) in
    kept_as a start end low high (kept_by_slice a start end h order (rw (rle_len a) at range)) (e ∙ low_is) (k ∙ high_is)

-- and to the end of all
pub kept_to_end : (a : RLEArrayParts) (start end first last low high : ℕ) → refusal_of_rle a ≡ None → start ≤ end → end ≤ length (column (tree_of_rle a)).items
    → first ≡ first_chunk a.window.offset start → last ≡ end_chunk a.window.offset end → first_chunk a.window.offset start < end_chunk a.window.offset end → length (column a.offsets).items ≤ last
    → low ≡ chunk_start (numbers_of (column a.offsets)) first → high ≡ length (column a.values).items → IsKept a start end low high
kept_to_end a start end first last low high h order range f g some all e k =
    let long = (sound_rle a h).long in
    let all_numbers : length (numbers_of (column a.offsets)) ≤ last = rw long all in
    let low_is = ap (chunk_start (numbers_of (column a.offsets))) f ∙ start_of_some (numbers_of (column a.offsets)) _ _ some in
    kept_as a start end low high (kept_by_slice a start end h order (rw (rle_len a) at range)) (e ∙ low_is) (k ∙ end_of_all (numbers_of (column a.offsets)) (length (column a.values).items) _ _ some (rw g at all_numbers))

-- run offsets that were read are unsigned
pub offsets_unsigned : (a : RLEArrayParts) (p : PrimitiveParts) → refusal_of_rle a ≡ None → column_of_primitive p ≡ column a.offsets → is_unsigned p.ptype ≡ true
offsets_unsigned a p h e =
    let typed : is_index_type (column_of_primitive p).dtype ≡ true = ap (λ (c : Column). is_index_type c.dtype) e ∙ (sound_rle a h).types.positions in
    unsigned_positions p typed

-- a null's type is nullable
pub null_is_nullable : (s : Scalar) → is_none (scalar_parts s).value ≡ true → nullability_in (scalar_parts s).dtype ≡ Nullable
null_is_nullable (scalars.Integer value nullability) h = cc
null_is_nullable (scalars.Bool value nullability) h = cc
null_is_nullable (scalars.NullInteger ptype) h = refl
null_is_nullable scalars.NullBool h = refl

pub none_is : {A : Type 0} (x : Option A) → is_none x ≡ true → x ≡ None
none_is None h = refl
none_is (Some x) h = cc

pub some_is : {A : Type 0} (x : Option A) → is_none x ≡ false → (y : A) × (x ≡ Some y)
some_is None h = cc
some_is (Some x) h = (x, refl)

-- what holds of the answer
pub if_answered : {A : Type 0} (P : A → Type 0) (r : Result A FastLanesError) (m : A) → Answers (λ x. x) r (Ok m) → P m → IfOk r P
if_answered P (Ok x) m h p = let same : m ≡ x = cc in subst P same p
if_answered P (Err e) m h p = tt
