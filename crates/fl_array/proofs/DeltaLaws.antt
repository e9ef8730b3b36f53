-- Delta arrays: their column, and their slices.
use Rattle.std.proofs.Common.{◌≡◌, ℕ, ◌+◌, ◌-◌, ◌*◌, ◌%◌, ◌≤◌, length, refl, ap, sym, ◌∙◌, false, None, Some}
use Rattle.std.specs.Prelude.{if◌then◌else◌, ℤ, Option, is_some}
use Rattle.fl_types.specs.declared.dtype.Nullability.{Nullability}
use Rattle.fl_types.specs.declared.dtype.Nullability.TheVariants.{NonNullable, Nullable}
use Rattle.fl_types.specs.Types.{can_be_null, is_nullable}
use Rattle.fl_types.specs.Validities.{is_valid_at, nullability_of}
use Rattle.fl_column.specs.Columns.{Column, PrimitiveParts, column_of_primitive, integers_in, ptype_of_column}
use Rattle.fl_codec.specs.Deltas.{delta_column, delta_integer}
use Rattle.fl_types.specs.declared.validity.Validity.{Validity}
use Rattle.fl_types.specs.Validities.{validity_between}
use Rattle.fl_column.specs.Operations.{slice_of}
use Rattle.fl_codec.specs.DeltaRefusals.{delta_refusal, lanes_of_dtype}
use Rattle.fl_codec.specs.ChunkSlices.{end_chunk, first_chunk}
use Rattle.fl_codec.proofs.FoRSlices.{integers_of-slice}
use Rattle.fl_codec.proofs.DeltaSlices.{AreDeltas, delta_slice, deltas, no_delta_refusal, sliced_deltas}
use Rattle.fl_codec.proofs.FoRSlices.{non_nullable_slots}
use Rattle.fl_bitpacking.proofs.Tables.{get_or-table, length-table}
use Rattle.fl_array.specs.DeltaArrays.{DeltaArrayParts, refusal_of_delta, tree_of_delta}
use Rattle.fl_array.specs.Reads.{IsValidityOf}
use Rattle.fl_array.specs.Trees.{Tree, column, column_of_delta}
use Rattle.fl_array.proofs.ValidityLaws.{is_some-cond}

-- an item of the column
abbrev pub item_of_deltas : DeltaArrayParts → ℕ → Option ℤ
item_of_deltas a i = if is_valid_at a.parts.validity i then Some (delta_integer (ptype_of_column (column a.bases)) (integers_in (column a.bases)) (integers_in (column a.deltas)) (a.parts.offset + i)) else None

pub delta_len : (a : DeltaArrayParts) → length (column (tree_of_delta a)).items ≡ a.parts.len
delta_len a = length-table (item_of_deltas a) a.parts.len

-- the bases and the deltas are well-formed
pub sound_deltas : (a : DeltaArrayParts) → refusal_of_delta a ≡ None → AreDeltas (column a.bases) (column a.deltas) a.parts.validity a.parts.offset a.parts.len
sound_deltas a h = deltas (column a.bases) (column a.deltas) a.parts.validity a.parts.offset a.parts.len h

item_is_some : (a : DeltaArrayParts) (i : ℕ) → is_valid_at a.parts.validity i ≡ is_some (item_of_deltas a i)
item_is_some a i = is_some-cond (is_valid_at a.parts.validity i) (delta_integer (ptype_of_column (column a.bases)) (integers_in (column a.bases)) (integers_in (column a.deltas)) (a.parts.offset + i))

pub delta_validity : (a : DeltaArrayParts) → refusal_of_delta a ≡ None → IsValidityOf a.parts.validity (column (tree_of_delta a))
delta_validity a h =
    let s = sound_deltas a h in
    let long = delta_len a in
    record {
      covered = rw long s.covered;
      nullable = refl;
      valid = λ i l. item_is_some a i ∙ ap (λ item. is_some item) (sym (get_or-table (item_of_deltas a) a.parts.len i None (rw (← long) l)));
    }

non_nullable_is : (n : Nullability) → can_be_null n ≡ false → n ≡ NonNullable
non_nullable_is NonNullable h = refl
non_nullable_is Nullable h = cc

pub read_slots : (p : PrimitiveParts) (c : Column) → column_of_primitive p ≡ c → is_nullable c.dtype ≡ false → p.slots ≡ integers_in c
read_slots p c e h =
    let non_nullable : nullability_of p.validity ≡ NonNullable = non_nullable_is (nullability_of p.validity) (ap (λ (x : Column). is_nullable x.dtype) e ∙ h) in
    sym (non_nullable_slots p non_nullable) ∙ ap integers_in e

-- the column, by decoded bases and deltas
pub delta_decoded : (a : DeltaArrayParts) (p q : PrimitiveParts) → refusal_of_delta a ≡ None → column_of_primitive p ≡ column a.bases → column_of_primitive q ≡ column a.deltas
    → delta_column p.ptype p.slots q.slots a.parts.validity a.parts.offset a.parts.len ≡ column_of_delta (column a.bases) (column a.deltas) a.parts
delta_decoded a p q h e f =
    let s = sound_deltas a h in
    let bases = read_slots p (column a.bases) e s.non_nullable_bases in
    let ds = read_slots q (column a.deltas) f s.non_nullable_deltas in
    let ptype : p.ptype ≡ ptype_of_column (column a.bases) = ap (λ (x : Column). ptype_of_column x) e in
    rw (bases, ds, ptype) refl

-- the blocks that a slice keeps make an array
pub kept_refusal : (a : DeltaArrayParts) (bases ds : Tree) (v : Validity) (o start end : ℕ) → refusal_of_delta a ≡ None → start ≤ end → end ≤ a.parts.len
    → column bases ≡ slice_of (lanes_of_dtype (column a.bases).dtype * first_chunk a.parts.offset start) (lanes_of_dtype (column a.bases).dtype * end_chunk a.parts.offset end) (column a.bases)
    → column ds ≡ slice_of (1024 * first_chunk a.parts.offset start) (1024 * end_chunk a.parts.offset end) (column a.deltas)
    → v ≡ validity_between start end a.parts.validity → o ≡ (a.parts.offset + start) % 1024 → delta_refusal (column bases) (column ds) v o (end - start) ≡ None
kept_refusal a bases ds v o start end h order range e f g k =
    rw (e, f, g, k) (no_delta_refusal _ _ _ _ _ (sliced_deltas (column a.bases) (column a.deltas) a.parts.validity a.parts.offset a.parts.len start end (sound_deltas a h) order range))

-- and they have the column of the slice
pub kept_column : (a : DeltaArrayParts) (bases ds : Tree) (v : Validity) (o start end : ℕ) → start ≤ end → end ≤ a.parts.len
    → column bases ≡ slice_of (lanes_of_dtype (column a.bases).dtype * first_chunk a.parts.offset start) (lanes_of_dtype (column a.bases).dtype * end_chunk a.parts.offset end) (column a.bases)
    → column ds ≡ slice_of (1024 * first_chunk a.parts.offset start) (1024 * end_chunk a.parts.offset end) (column a.deltas)
    → v ≡ validity_between start end a.parts.validity → o ≡ (a.parts.offset + start) % 1024
    → column_of_delta (column bases) (column ds) (record { validity = v; offset = o; len = end - start }) ≡ slice_of start end (column_of_delta (column a.bases) (column a.deltas) a.parts)
kept_column a bases ds v o start end order range e f g k =
    let first_base = lanes_of_dtype (column a.bases).dtype * first_chunk a.parts.offset start in
    let last_base = lanes_of_dtype (column a.bases).dtype * end_chunk a.parts.offset end in
    let base_slots = integers_of-slice (column a.bases) first_base last_base in
    let delta_slots = integers_of-slice (column a.deltas) (1024 * first_chunk a.parts.offset start) (1024 * end_chunk a.parts.offset end) in
    rw (e, f, g, k, base_slots, delta_slots) (delta_slice (ptype_of_column (column a.bases)) (integers_in (column a.bases)) (integers_in (column a.deltas)) a.parts.validity a.parts.offset a.parts.len start end order range)
