-- What FoR encoding makes is a FoR array.
use Rattle.std.proofs.Common.{◌≡◌, ◌&&◌, ◌+◌, ◌/◌, ◌<◌, ◌^◌, ℕ, ℤ, pos, Bool, true, false, List, length, Option, Some, None, Ok, IsTrue, refl, ap, sym, subst, ◌∙◌, inl, inr, arith}
use Rattle.std.specs.Prelude.{is_none, nat_lt, slice_index_or, if◌then◌else◌}
use Rattle.std.specs.List.{list_all}
use Rattle.std.proofs.lemmas.Bool.{cases_Bool, eq-eqb}
use Rattle.fl_types.specs.declared.dtype.PType.{PType}
use Rattle.fl_types.specs.Validities.{covers, items_of}
use Rattle.fl_column.specs.Columns.{PrimitiveParts, column_of_primitive, integers_in}
use Rattle.fl_column.proofs.ItemLaws.{length-items_of}
use Rattle.fl_codec.specs.Chunks.{chunks_of}
use Rattle.fl_codec.specs.FoRColumns.{chunk_references, chunked_for, chunked_slots, common_reference, least_by, minus_reference, reading}
use Rattle.fl_codec.specs.Parts.{ByChunk, FoRParts, Nulls, OneReference, encode_chunked_by, encode_global_by, items_of_primitive, less_chunk_leasts, less_common, subtract_min, subtract_reference, less_references, non_nullable, null_constant, reference_scalar}
use Rattle.fl_codec.specs.FoRValues.{column_of_for}
use Rattle.fl_codec.specs.declared.for_.ItemOrder.{ItemOrder}
use Rattle.fl_codec.proofs.ColumnParts.{integers_of_non_nullable}
use Rattle.fl_codec.proofs.FirstRefusals.{is_same_ptype}
use Rattle.fl_codec.proofs.Tables.{length-table}
use Rattle.fl_bitpacking.specs.Refusals.{positions_refusal}
use Rattle.fl_bitpacking.proofs.SoundParts.{no_positions_refusal}
use Rattle.fl_array.specs.EncodedFoR.{for_of_parts}
use Rattle.fl_array.specs.FoRArrays.{refusal_of_for, reference_refusal}

-- ---- one reference
-- a reference of the items' type
one_accepted : (p : PrimitiveParts) (z : ℤ) → reference_refusal (column_of_primitive (subtract_reference p z).child).dtype (subtract_reference p z).reference ≡ None
one_accepted p z = rw (is_same_ptype p.ptype p.ptype refl) refl

least_accepted : (p : PrimitiveParts) (least : Option ℤ) (parts : OneReference) → subtract_min p least ≡ Ok parts → reference_refusal (column_of_primitive parts.child).dtype parts.reference ≡ None
least_accepted p None parts e = cc
least_accepted p (Some z) parts e =
    let same : subtract_reference p z ≡ parts = cc in
    subst (λ (q : OneReference). reference_refusal (column_of_primitive q.child).dtype q.reference ≡ None) same (one_accepted p z)

pub global_accepted : (order : ItemOrder) (p : PrimitiveParts) (parts : OneReference) → encode_global_by order p ≡ Ok parts → reference_refusal (column_of_primitive parts.child).dtype parts.reference ≡ None
global_accepted order p parts e = least_accepted p (least_by (reading order p.ptype) (items_of_primitive p)) parts e

-- ---- a reference for each chunk
length-child : (p : PrimitiveParts) (references : List ℤ) → IsTrue (covers p.validity (length p.slots)) → length (items_of p.validity (chunked_slots p.ptype references (items_of_primitive p))) ≡ length p.slots
length-child p references covered =
    let items = length-items_of p.validity p.slots covered in
    let long : length (chunked_slots p.ptype references (items_of_primitive p)) ≡ length p.slots = length-table (λ i. minus_reference p.ptype (slice_index_or references (i / 1024) (pos 0)) (slice_index_or (items_of_primitive p) i None)) (length (items_of_primitive p)) ∙ items in
    length-items_of p.validity (chunked_slots p.ptype references (items_of_primitive p)) (rw long covered) ∙ long

length-references : (ptype : PType) (references : List ℤ) → length (column_of_primitive (non_nullable ptype references)).items ≡ length references
length-references ptype references = length-items_of (non_nullable ptype references).validity references refl

chunks_accepted : (p : PrimitiveParts) (references : List ℤ) → IsTrue (covers p.validity (length p.slots)) → positions_refusal 0 (length p.slots) ≡ None → length references ≡ chunks_of (length p.slots) → refusal_of_for (for_of_parts (less_references p references)) ≡ None
chunks_accepted p references covered few count =
    let child = length-child p references covered in
    let own = length-references p.ptype references in
    let all : 0 + length p.slots ≡ length p.slots = omega arith in
    let counted : length references ≡ chunks_of (0 + length p.slots) = count ∙ ap chunks_of (sym all) in
    rw (child, own, few, eq-eqb (length references) (chunks_of (0 + length p.slots)) counted, is_same_ptype p.ptype p.ptype refl) refl

-- ---- whatever is made
common_accepted : (p : PrimitiveParts) (references : List ℤ) (one : Option ℤ) → IsTrue (covers p.validity (length p.slots)) → positions_refusal 0 (length p.slots) ≡ None → length references ≡ chunks_of (length p.slots) → refusal_of_for (for_of_parts (less_common p references one)) ≡ None
common_accepted p references None covered few count = chunks_accepted p references covered few count
common_accepted p references (Some z) covered few count = one_accepted p z

nulls_accepted : (ptype : PType) (len : ℕ) → refusal_of_for (for_of_parts (Nulls (null_constant ptype len) (reference_scalar ptype (pos 0)))) ≡ None
nulls_accepted ptype len = rw (is_same_ptype ptype ptype refl) refl

length-chunk_references : (order : ItemOrder) (p : PrimitiveParts) → IsTrue (covers p.validity (length p.slots)) → length (chunk_references (reading order p.ptype) (items_of_primitive p)) ≡ chunks_of (length p.slots)
length-chunk_references order p covered = length-table _ (chunks_of (length (items_of_primitive p))) ∙ ap chunks_of (length-items_of p.validity p.slots covered)

pub chunked_accepted : (order : ItemOrder) (p : PrimitiveParts) → IsTrue (covers p.validity (length p.slots)) → positions_refusal 0 (length p.slots) ≡ None → refusal_of_for (for_of_parts (encode_chunked_by order p)) ≡ None
chunked_accepted order p covered few = elim (cases_Bool (nat_lt 0 (length p.slots) && list_all is_none (items_of_primitive p))) [
  | inl nulls ↦ rw nulls (nulls_accepted p.ptype (length p.slots))
  | inr some ↦ rw some (common_accepted p (chunk_references (reading order p.ptype) (items_of_primitive p)) (common_reference (chunk_references (reading order p.ptype) (items_of_primitive p))) covered few (length-chunk_references order p covered))
]

-- the same of the parts that were made
pub made_accepted : (order : ItemOrder) (p : PrimitiveParts) (parts : FoRParts) → encode_chunked_by order p ≡ parts → IsTrue (covers p.validity (length p.slots)) → positions_refusal 0 (length p.slots) ≡ None → refusal_of_for (for_of_parts parts) ≡ None
made_accepted order p parts e covered few = subst (λ (q : FoRParts). refusal_of_for (for_of_parts q) ≡ None) e (chunked_accepted order p covered few)

-- ---- what lies in memory
pub few_positions : (n : ℕ) → n < 2 ^ 63 → positions_refusal 0 n ≡ None
few_positions n h = no_positions_refusal 0 n (omega arith) (omega arith)

-- ---- the references of chunks are not null
common_integers : (p : PrimitiveParts) (references : List ℤ) (one : Option ℤ) (child refs : PrimitiveParts) → less_common p references one ≡ ByChunk child refs → integers_in (column_of_primitive refs) ≡ refs.slots
common_integers p references None child refs e =
    let same : non_nullable p.ptype references ≡ refs = cc in
    subst (λ (r : PrimitiveParts). integers_in (column_of_primitive r) ≡ r.slots) same (integers_of_non_nullable p.ptype references)
common_integers p references (Some z) child refs e = cc

chosen_integers : (order : ItemOrder) (p : PrimitiveParts) (all : Bool) (child refs : PrimitiveParts) → (if all then Nulls (null_constant p.ptype (length p.slots)) (reference_scalar p.ptype (pos 0)) else less_chunk_leasts order p) ≡ ByChunk child refs → integers_in (column_of_primitive refs) ≡ refs.slots
chosen_integers order p true child refs e = cc
chosen_integers order p false child refs e = common_integers p (chunk_references (reading order p.ptype) (items_of_primitive p)) (common_reference (chunk_references (reading order p.ptype) (items_of_primitive p))) child refs e

-- the column of a child and the references of its chunks
pub chunked_column : (order : ItemOrder) (p child refs : PrimitiveParts) → encode_chunked_by order p ≡ ByChunk child refs → column_of_for (encode_chunked_by order p) ≡ column_of_primitive p → chunked_for (integers_in (column_of_primitive refs)) 0 (column_of_primitive child) ≡ column_of_primitive p
chunked_column order p child refs e back =
    let own : column_of_for (ByChunk child refs) ≡ column_of_primitive p = subst (λ (parts : FoRParts). column_of_for parts ≡ column_of_primitive p) e back in
    rw (chosen_integers order p (nat_lt 0 (length p.slots) && list_all is_none (items_of_primitive p)) child refs e) own
