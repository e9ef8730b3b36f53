-- FoR arrays: length, type and validity of their column.
use Rattle.std.proofs.Common.{◌≡◌, ℕ, ℤ, pos, ◌+◌, ◌/◌, ◌<◌, length, get_or, refl, ap, sym, ◌∙◌, None, Option}
use Rattle.std.specs.Prelude.{is_some, unwrap_or}
use Rattle.std.proofs.lemmas.List.{length-map, get_or-map}
use Rattle.fl_types.specs.declared.validity.Validity.{Validity}
use Rattle.fl_types.specs.Types.{nullability_in}
use Rattle.fl_column.specs.Columns.{integers_in, ptype_of_column}
use Rattle.fl_codec.specs.FoRColumns.{plus_reference}
use Rattle.fl_codec.proofs.FoRSlices.{is_some-plus, length-chunked}
use Rattle.fl_bitpacking.proofs.Tables.{get_or-table}
use Rattle.fl_array.specs.FoRArrays.{ChunkReferences, FoRArrayParts, FoRReferencesParts, GlobalReference, for_tree, tree_of_for}
use Rattle.fl_array.specs.Reads.{IsValidityOf}
use Rattle.fl_array.specs.Trees.{Tree, column}

len_by : (encoded : Tree) (references : FoRReferencesParts) → length (column (for_tree encoded references)).items ≡ length (column encoded).items
len_by encoded (GlobalReference reference) = length-map (column encoded).items (plus_reference (ptype_of_column (column encoded)) (unwrap_or reference.value (pos 0)))
len_by encoded (ChunkReferences references offset) = length-chunked (integers_in (column references)) offset (column encoded)

pub for_len : (a : FoRArrayParts) → length (column (tree_of_for a)).items ≡ length (column a.encoded).items
for_len a = len_by a.encoded a.references

dtype_by : (encoded : Tree) (references : FoRReferencesParts) → (column (for_tree encoded references)).dtype ≡ (column encoded).dtype
dtype_by encoded (GlobalReference reference) = refl
dtype_by encoded (ChunkReferences references offset) = refl

pub for_dtype : (a : FoRArrayParts) → (column (tree_of_for a)).dtype ≡ (column a.encoded).dtype
for_dtype a = dtype_by a.encoded a.references

there_by : (encoded : Tree) (references : FoRReferencesParts) (i : ℕ) → i < length (column encoded).items → is_some (get_or (column (for_tree encoded references)).items i None) ≡ is_some (get_or (column encoded).items i None)
there_by encoded (GlobalReference reference) i h =
    let c = column encoded in
    let r = unwrap_or reference.value (pos 0) in
    ap (λ item. is_some item) (get_or-map (plus_reference (ptype_of_column c) r) c.items i None None h) ∙ is_some-plus (ptype_of_column c) r (get_or c.items i None)
there_by encoded (ChunkReferences references offset) i h =
    let c = column encoded in
    let rs = integers_in (column references) in
    let item : ℕ → Option ℤ = λ i. plus_reference (ptype_of_column c) (get_or rs ((offset + i) / 1024) (pos 0)) (get_or c.items i None) in
    ap (λ x. is_some x) (get_or-table item (length c.items) i None h) ∙ is_some-plus (ptype_of_column c) (get_or rs ((offset + i) / 1024) (pos 0)) (get_or c.items i None)

pub for_validity : (a : FoRArrayParts) (v : Validity) → IsValidityOf v (column a.encoded) → IsValidityOf v (column (tree_of_for a))
for_validity a v s =
    let long = for_len a in
    record {
      covered = rw long s.covered;
      nullable = s.nullable ∙ ap nullability_in (sym (for_dtype a));
      valid = λ i h. (let l : i < length (column a.encoded).items = rw (← long) h in s.valid i l ∙ sym (there_by a.encoded a.references i l));
    }

-- an item is null where the encoded one is
pub for_there : (a : FoRArrayParts) (i : ℕ) → i < length (column a.encoded).items → is_some (get_or (column (tree_of_for a)).items i None) ≡ is_some (get_or (column a.encoded).items i None)
for_there a i h = there_by a.encoded a.references i h
