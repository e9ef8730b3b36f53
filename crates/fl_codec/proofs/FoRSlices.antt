-- Slices and single items of columns that are kept less a reference.
use Rattle.std.proofs.Common.{◌≡◌, ℕ, ℤ, pos, ◌+◌, ◌-◌, ◌/◌, ◌%◌, ◌<◌, ◌≤◌, List, length, get_or, Option, Some, None, refl, ap, ◌∙◌, arith}
use Rattle.std.specs.Prelude.{is_some, unwrap_or}
use Rattle.std.proofs.lemmas.List.{take-map, drop-map, get_or-map}
use Rattle.fl_types.specs.declared.dtype.PType.{PType}
use Rattle.fl_types.specs.declared.dtype.Nullability.TheVariants.{NonNullable}
use Rattle.fl_types.specs.declared.validity.Validity.{Validity}
use Rattle.fl_types.specs.declared.validity.Validity.TheVariants as valid
use Rattle.fl_types.specs.Bits.{between, tabulate}
use Rattle.fl_types.specs.Validities.{nullability_of}
use Rattle.fl_types.specs.Values.{ScalarParts}
use Rattle.fl_types.proofs.BitLists.{same_tables}
use Rattle.fl_column.specs.Columns.{Column, PrimitiveParts, column_of_primitive, integers_in, ptype_of_column}
use Rattle.fl_column.specs.Operations.{slice_of}
use Rattle.fl_column.specs.Queries.{scalar_in}
use Rattle.fl_column.proofs.ItemLaws.{length-between}
use Rattle.fl_codec.proofs.Tables.{get_or-between, map-between}
use Rattle.fl_codec.specs.FoRColumns.{chunked_for, global_for, plus_reference}
use Rattle.fl_codec.specs.ChunkSlices.{end_chunk, first_chunk}
use Rattle.fl_codec.proofs.ColumnParts.{integers_of_non_nullable}
use Rattle.fl_codec.proofs.Tables.{between-table, get_or-table, length-table}

-- an item plus a reference
abbrev pub scalar_plus : ℤ → PType → ScalarParts → ScalarParts
scalar_plus reference ptype cell = record { dtype = cell.dtype; value = plus_reference ptype reference cell.value }

-- ---- one reference
-- a part of the items plus a reference is the items of a part plus the reference
pub slice_of_global : (reference : ℤ) (c : Column) (start end : ℕ) → slice_of start end (global_for reference c) ≡ global_for reference (slice_of start end c)
slice_of_global reference c start end = ap (λ (xs : List (Option ℤ)). record { dtype = c.dtype; items = xs }) (simp (take-map, drop-map))

pub item_of_global : (reference : ℤ) (c : Column) (i : ℕ) → i < length c.items → scalar_in (global_for reference c) i ≡ scalar_plus reference (ptype_of_column c) (scalar_in c i)
item_of_global reference c i h = ap (λ (v : Option ℤ). record { dtype = c.dtype; value = v }) (get_or-map (plus_reference (ptype_of_column c) reference) c.items i None None h)

-- ---- a reference for each chunk
-- the references of a part
pub integers_of-slice : (c : Column) (start end : ℕ) → integers_in (slice_of start end c) ≡ between start end (integers_in c)
integers_of-slice c start end = map-between (λ item. unwrap_or item (pos 0)) c.items start end

pub slice_of_chunked : (references : List ℤ) (offset : ℕ) (c : Column) (start end : ℕ) → start ≤ end → end ≤ length c.items
    → slice_of start end (chunked_for references offset c) ≡ chunked_for (between (first_chunk offset start) (end_chunk offset end) references) ((offset + start) % 1024) (slice_of start end c)
slice_of_chunked references offset c start end order range =
    let item : ℕ → Option ℤ = λ i. plus_reference (ptype_of_column c) (get_or references ((offset + i) / 1024) (pos 0)) (get_or c.items i None) in
    let later : ℕ → Option ℤ = λ i. plus_reference (ptype_of_column c) (get_or (between (first_chunk offset start) (end_chunk offset end) references) (((offset + start) % 1024 + i) / 1024) (pos 0)) (get_or (between start end c.items) i None) in
    let part = between-table item (length c.items) start end None order range in
    let same = same_tables (λ i. item (start + i)) later (end - start) (λ i h.
    let chunk : (offset + start) / 1024 + ((offset + start) % 1024 + i) / 1024 ≡ (offset + (start + i)) / 1024 = omega arith in
    let kept : ((offset + start) % 1024 + i) / 1024 < end_chunk offset end - first_chunk offset start = omega arith in
    let reference = get_or-between references (first_chunk offset start) (end_chunk offset end) (((offset + start) % 1024 + i) / 1024) (pos 0) kept ∙ ap (λ k. get_or references k (pos 0)) chunk in
    let here = get_or-between c.items start end i None h in
    rw (reference, here) refl) in
    let long = length-between c.items start end order range in
    let items : between start end (tabulate item (length c.items)) ≡ tabulate later (length (between start end c.items)) = part ∙ same ∙ (rw long refl) in
    ap (λ (xs : List (Option ℤ)). record { dtype = c.dtype; items = xs }) items

pub item_of_chunked : (references : List ℤ) (offset : ℕ) (c : Column) (i : ℕ) → i < length c.items → scalar_in (chunked_for references offset c) i ≡ scalar_plus (get_or references ((offset + i) / 1024) (pos 0)) (ptype_of_column c) (scalar_in c i)
item_of_chunked references offset c i h =
    let item : ℕ → Option ℤ = λ i. plus_reference (ptype_of_column c) (get_or references ((offset + i) / 1024) (pos 0)) (get_or c.items i None) in
    ap (λ (v : Option ℤ). record { dtype = c.dtype; value = v }) (get_or-table item (length c.items) i None h)

pub length-chunked : (references : List ℤ) (offset : ℕ) (c : Column) → length (chunked_for references offset c).items ≡ length c.items
length-chunked references offset c = length-table (λ i. plus_reference (ptype_of_column c) (get_or references ((offset + i) / 1024) (pos 0)) (get_or c.items i None)) (length c.items)

-- an item plus a reference is there where the item is
pub is_some-plus : (ptype : PType) (reference : ℤ) (item : Option ℤ) → is_some (plus_reference ptype reference item) ≡ is_some item
is_some-plus ptype reference None = refl
is_some-plus ptype reference (Some z) = refl

-- the stored integers are those of the column where none can be null
non_nullable : (ptype : PType) (slots : List ℤ) (v : Validity) → nullability_of v ≡ NonNullable → integers_in (column_of_primitive (record { ptype = ptype; slots = slots; validity = v })) ≡ slots
non_nullable ptype slots valid.NonNullable h = integers_of_non_nullable ptype slots
non_nullable ptype slots valid.AllValid h = cc
non_nullable ptype slots valid.AllInvalid h = cc
non_nullable ptype slots (valid.Array bits) h = cc

pub non_nullable_slots : (p : PrimitiveParts) → nullability_of p.validity ≡ NonNullable → integers_in (column_of_primitive p) ≡ p.slots
non_nullable_slots p h = non_nullable p.ptype p.slots p.validity h
