-- FoR arrays over bit-packed ones: the references are integers of the packed type, and their sums the column.
use Rattle.std.proofs.Common.{◌≡◌, ◌≤◌, ℕ, ℤ, pos, length, arith, ap, sym, ◌∙◌, Ok, None, Option, Some, List, true}
use Rattle.std.specs.Prelude.{is_some, unwrap_or}
use Rattle.fl_types.specs.declared.dtype.PType.{PType}
use Rattle.fl_types.specs.declared.dtype.Nullability.TheVariants.{NonNullable}
use Rattle.fl_types.specs.declared.scalar.PValue.{PValue}
use Rattle.fl_types.specs.Types.{integer_type, is_integer, is_nullable}
use Rattle.fl_types.specs.Validities.{nullability_of}
use Rattle.fl_types.specs.Values.{ScalarParts, integer_of, ptype_of_value}
use Rattle.fl_column.specs.Columns.{Column, PrimitiveParts, column_of_primitive, integers_in}
use Rattle.fl_codec.specs.FoRColumns.{chunked_for, global_for}
use Rattle.fl_codec.proofs.FoRSlices.{non_nullable_slots}
use Rattle.fl_bitpacking.specs.Columns.{block_count}
use Rattle.fl_array.specs.BitPackedArrays.{BitPackedArrayParts, tree_of_bitpacked}
use Rattle.fl_array.specs.FoRArrays.{ChunkReferences, FoRArrayParts, GlobalReference, offset_of_references, refusal_of_for, tree_of_for}
use Rattle.fl_array.specs.Reads.{integer_column}
use Rattle.fl_array.specs.Trees.{Tree, column}
use Rattle.fl_array.proofs.BitPackedLaws.{bitpacked_dtype, bitpacked_len}
use Rattle.fl_array.proofs.FoRSound.{answered_column, chunked_column, global_column, has_reference, has_references, non_nullable_is}

one_type : (p q : PType) → (let some : Option PType = Some p in some) ≡ Some q → p ≡ q
one_type p q e = cc

-- the type of the encoded items
packed_type : (a : FoRArrayParts) (p : BitPackedArrayParts) → tree_of_bitpacked p ≡ a.encoded → integer_type (column a.encoded).dtype ≡ Some p.parts.ptype
packed_type a p packed = ap (λ (t : Tree). integer_type (column t).dtype) (sym packed) ∙ ap integer_type (bitpacked_dtype p)

-- one reference
pub reference_type : (a : FoRArrayParts) (p : BitPackedArrayParts) (reference : ScalarParts) (v : PValue) → refusal_of_for a ≡ None → GlobalReference reference ≡ a.references → tree_of_bitpacked p ≡ a.encoded
    → integer_type reference.dtype ≡ Some (ptype_of_value v) → ptype_of_value v ≡ p.parts.ptype
reference_type a p reference v refused same packed typed =
    let s = has_reference a reference refused same in
    one_type (ptype_of_value v) p.parts.ptype (sym typed ∙ (s.typed ∙ packed_type a p packed))

pub reference_sums : (a : FoRArrayParts) (p : BitPackedArrayParts) (reference : ScalarParts) (v : PValue) → GlobalReference reference ≡ a.references → tree_of_bitpacked p ≡ a.encoded
    → reference.value ≡ Some (integer_of v) → global_for (integer_of v) (column (tree_of_bitpacked p)) ≡ column (tree_of_for a)
reference_sums a p reference v same packed value =
    ap (λ (t : Tree). global_for (integer_of v) (column t)) packed
    ∙ (ap (λ (o : Option ℤ). global_for (unwrap_or o (pos 0)) (column a.encoded)) (sym value) ∙ sym (global_column a reference same))

-- the references of the chunks, decoded
references_read : (a : FoRArrayParts) (references : Tree) (q : PrimitiveParts) → refusal_of_for a ≡ None → ChunkReferences references (offset_of_references a.references) ≡ a.references → Ok (column_of_primitive q) ≡ integer_column (column references)
    → column_of_primitive q ≡ column references
references_read a references q refused same plain =
    let s = has_references a references (offset_of_references a.references) refused same in
    let integer : is_integer (column references).dtype ≡ true = ap (λ t. is_some t) s.typed ∙ s.integer in
    answered_column (column references) q integer plain

pub references_type : (a : FoRArrayParts) (p : BitPackedArrayParts) (references : Tree) (q : PrimitiveParts) → refusal_of_for a ≡ None → ChunkReferences references (offset_of_references a.references) ≡ a.references → tree_of_bitpacked p ≡ a.encoded
    → Ok (column_of_primitive q) ≡ integer_column (column references) → q.ptype ≡ p.parts.ptype
references_type a p references q refused same packed plain =
    let s = has_references a references (offset_of_references a.references) refused same in
    let read = references_read a references q refused same plain in
    one_type q.ptype p.parts.ptype (ap (λ (c : Column). integer_type c.dtype) read ∙ (s.typed ∙ packed_type a p packed))

pub references_enough : (a : FoRArrayParts) (p : BitPackedArrayParts) (references : Tree) (q : PrimitiveParts) (n : ℕ) → refusal_of_for a ≡ None → ChunkReferences references (offset_of_references a.references) ≡ a.references → tree_of_bitpacked p ≡ a.encoded
    → p.parts.offset ≡ offset_of_references a.references → Ok (column_of_primitive q) ≡ integer_column (column references) → n ≡ length q.slots → n ≡ length (column_of_primitive q).items → block_count p.parts ≤ length q.slots
references_enough a p references q n refused same packed offset plain slots items =
    let s = has_references a references (offset_of_references a.references) refused same in
    let read : length (column_of_primitive q).items ≡ length (column references).items = ap (λ (c : Column). length c.items) (references_read a references q refused same plain) in
    let long : length (column a.encoded).items ≡ p.parts.len = ap (λ (t : Tree). length (column t).items) (sym packed) ∙ bitpacked_len p in
    let count = s.count in
    omega arith

pub references_slots : (a : FoRArrayParts) (references : Tree) (q : PrimitiveParts) → refusal_of_for a ≡ None → ChunkReferences references (offset_of_references a.references) ≡ a.references → Ok (column_of_primitive q) ≡ integer_column (column references)
    → q.slots ≡ integers_in (column references)
references_slots a references q refused same plain =
    let s = has_references a references (offset_of_references a.references) refused same in
    let read = references_read a references q refused same plain in
    let non_nullable : nullability_of q.validity ≡ NonNullable = non_nullable_is (nullability_of q.validity) (ap (λ (c : Column). is_nullable c.dtype) read ∙ s.non_nullable) in
    sym (non_nullable_slots q non_nullable) ∙ ap integers_in read

pub references_sums : (a : FoRArrayParts) (p : BitPackedArrayParts) (references : Tree) (q : PrimitiveParts) → refusal_of_for a ≡ None → ChunkReferences references (offset_of_references a.references) ≡ a.references → tree_of_bitpacked p ≡ a.encoded
    → p.parts.offset ≡ offset_of_references a.references → Ok (column_of_primitive q) ≡ integer_column (column references) → chunked_for q.slots p.parts.offset (column (tree_of_bitpacked p)) ≡ column (tree_of_for a)
references_sums a p references q refused same packed offset plain =
    let slots = references_slots a references q refused same plain in
    ap (λ (t : Tree). chunked_for q.slots p.parts.offset (column t)) packed
    ∙ (ap (λ n. chunked_for q.slots n (column a.encoded)) offset
    ∙ (ap (λ (r : List ℤ). chunked_for r (offset_of_references a.references) (column a.encoded)) slots ∙ sym (chunked_column a references (offset_of_references a.references) same)))
