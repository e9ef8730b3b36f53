-- References of chunks.
use Rattle.std.proofs.Common.{◌≡◌, ℕ, ℤ, pos, ◌+◌, ◌/◌, ◌%◌, ◌<◌, ◌≤◌, List, length, map, get_or, drop, Option, Some, None, Ok, true, ap, sym, ◌∙◌, arith}
use Rattle.std.specs.Prelude.{◌+ℤ◌, is_some, unwrap_or}
use Rattle.std.proofs.lemmas.List.{drop-map, get_or-drop, length-map}
use Rattle.fl_types.specs.declared.dtype.PType.{PType}
use Rattle.fl_types.specs.declared.dtype.PType.TheVariants.{U8}
use Rattle.fl_types.specs.Integers.{wrap}
use Rattle.fl_types.specs.Types.{integer_type, is_integer}
use Rattle.fl_column.specs.Columns.{Column, PrimitiveParts, column_of_primitive, ptype_of_column}
use Rattle.fl_codec.specs.FoRColumns.{chunked_for, chunked_sums, plus_reference}
use Rattle.fl_bitpacking.specs.Blocks.{value_at}
use Rattle.fl_bitpacking.proofs.Tables.{get_or-table}
use Rattle.fl_array.specs.FoRArrays.{ChunkReferences, FoRArrayParts, offset_of_references, refusal_of_for, tree_of_for}
use Rattle.fl_array.specs.Reads.{integer_column}
use Rattle.fl_array.specs.Trees.{Tree, column}
use Rattle.fl_array.proofs.FoRSound.{answered_column, chunked_column, has_references}
use Rattle.fl_array.proofs.PackedFoR.{references_slots}
use Rattle.fl_array.specs.Readers.{AreItemsFrom}
use Rattle.fl_array.specs.ReaderParts.{AreReferences}
use Rattle.fl_array.proofs.ReadLaws.{plus_case}

-- the integers plus the references of their chunks
pub references_shown : {X : Type 0} (value : X → ℤ) (c : Column) (ptype : PType) (slots : List ℤ) (refs old new : List X) (offset start n : ℕ) → ptype_of_column c ≡ ptype → map value refs ≡ slots → length old ≡ n → start + n ≤ length c.items
    → map value new ≡ chunked_sums ptype (map value (drop ((offset + start) / 1024) refs)) ((offset + start) % 1024) (map value old)
    → AreItemsFrom start n (value_at value old) c → AreItemsFrom start n (value_at value new) (chunked_for slots offset c)
unfolding value_at
references_shown value c ptype slots refs old new offset start n typed same long room sums shown = λ i z h e.
    let k = (offset + start) / 1024 in
    let low = (offset + start) % 1024 in
    let rest = map value (drop k refs) in
    let inside : i < length (map value old) = let mapped = length-map old value in omega arith in
    let item : ℕ → Option ℤ = λ j. plus_reference (ptype_of_column c) (get_or slots ((offset + j) / 1024) (pos 0)) (get_or c.items j None) in
    let r = get_or slots ((offset + (start + i)) / 1024) (pos 0) in
    let there : plus_reference (ptype_of_column c) r (get_or c.items (start + i) None) ≡ Some z = sym (get_or-table item (length c.items) (start + i) None (omega arith)) ∙ e in
    let typed_there : plus_reference ptype r (get_or c.items (start + i) None) ≡ Some z = ap (λ t. plus_reference t r (get_or c.items (start + i) None)) (sym typed) ∙ there in
    let place : k + (low + i) / 1024 ≡ (offset + (start + i)) / 1024 = omega arith in
    let read : get_or rest ((low + i) / 1024) (pos 0) ≡ r = ap (λ ys. get_or ys ((low + i) / 1024) (pos 0)) (sym (drop-map value k refs)) ∙ (get_or-drop k (map value refs) ((low + i) / 1024) (pos 0) ∙ (ap (λ ys. get_or ys (k + (low + i) / 1024) (pos 0)) same ∙ ap (λ j. get_or slots j (pos 0)) place)) in
    let sum : ℕ → ℤ = λ j. wrap ptype (get_or (map value old) j (pos 0) +ℤ get_or rest ((low + j) / 1024) (pos 0)) in
    plus_case ptype r (get_or c.items (start + i) None) (get_or (map value old) i (pos 0)) (get_or (map value new) i (pos 0)) z (λ y s. shown i y h s) typed_there
    (ap (λ ys. get_or ys i (pos 0)) sums ∙ (get_or-table sum (length (map value old)) i (pos 0) inside ∙ ap (λ x. wrap ptype (get_or (map value old) i (pos 0) +ℤ x)) read))

-- the decoded references of an array
pub references_of_array : (a : FoRArrayParts) (references : Tree) (q : PrimitiveParts) (count : ℕ) → refusal_of_for a ≡ None → ChunkReferences references (offset_of_references a.references) ≡ a.references → Ok (column_of_primitive q) ≡ integer_column (column references)
    → count ≡ length q.slots → count ≡ length (column_of_primitive q).items → AreReferences q (offset_of_references a.references) (column a.encoded)
references_of_array a references q count refused same plain slots_count items_count =
    let offset = offset_of_references a.references in
    let s = has_references a references offset refused same in
    let integer : is_integer (column references).dtype ≡ true = ap (λ t. is_some t) s.typed ∙ s.integer in
    let read : column_of_primitive q ≡ column references = answered_column (column references) q integer plain in
    let type_is : Some q.ptype ≡ integer_type (column a.encoded).dtype = ap (λ (c : Column). integer_type c.dtype) read ∙ s.typed in
    let long : length (column_of_primitive q).items ≡ length (column references).items = ap (λ (c : Column). length c.items) read in
    let counted = s.count in
    let room = s.few in
    record {
      typed = ap (λ t. unwrap_or t U8) type_is;
      few = omega arith;
      enough = omega arith;
    }

pub references_summed : (a : FoRArrayParts) (references : Tree) (q : PrimitiveParts) → refusal_of_for a ≡ None → ChunkReferences references (offset_of_references a.references) ≡ a.references → Ok (column_of_primitive q) ≡ integer_column (column references)
    → chunked_for q.slots (offset_of_references a.references) (column a.encoded) ≡ column (tree_of_for a)
references_summed a references q refused same plain =
    let offset = offset_of_references a.references in
    ap (λ rs. chunked_for rs offset (column a.encoded)) (references_slots a references q refused same plain) ∙ sym (chunked_column a references offset same)
