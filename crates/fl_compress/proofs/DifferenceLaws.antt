-- The children of frames of reference, by the differences that they hold.
use Rattle.std.proofs.Common.{◌≡◌, ℕ, ℤ, pos, ◌+◌, ◌/◌, ◌<◌, ◌&&◌, Bool, true, false, cond, List, [], length, map, get_or, nat_lt, is_none, Option, Some, None, option_map, IsTrue, refl, ap, sym, ◌∙◌, arith}
use Rattle.std.specs.Prelude.{if◌then◌else◌}
use Rattle.std.specs.List.{list_all}
use Rattle.std.proofs.lemmas.List.{ext_get_or, get_or-map, length-map}
use Rattle.fl_types.specs.declared.dtype.PType.{PType}
use Rattle.fl_types.specs.Validities.{covers, is_valid_at, items_of}
use Rattle.fl_column.specs.Columns.{PrimitiveParts}
use Rattle.fl_column.proofs.ItemLaws.{get_or-items_of, length-items_of}
use Rattle.fl_codec.specs.FoRColumns.{chunk_references, chunked_slots, common_reference, minus_reference, reading}
use Rattle.fl_codec.specs.declared.for_.ItemOrder.{ItemOrder}
use Rattle.fl_codec.specs.Parts.{ByChunk, Nulls, Whole, encode_chunked_by, items_of_primitive, less_chunk_leasts, less_common, non_nullable, null_constant, reference_scalar, subtract_reference}
use Rattle.fl_codec.proofs.Tables.{get_or-table, length-table}
use Rattle.fl_statistics.specs.Differences.{difference, less_references}
use Rattle.fl_statistics.proofs.Differences.{get_or-less, length-less}
use Rattle.fl_serde.specs.ByteCounts.{primitive_bytes, validity_bytes}
use Rattle.fl_serde.specs.Leaves.{slots_size}
use Rattle.fl_compress.specs.Choices.{HoldDifferences, with_slots}

-- ---- what slots hold
-- an item that is there, or a null, less a reference
one_difference : (t : PType) (reference z : ℤ) (valid : Bool) → cond valid (Some (minus_reference t reference (cond valid (Some z) None))) None ≡ option_map (difference t reference) (cond valid (Some z) None)
one_difference t reference z true = refl
one_difference t reference z false = refl

-- slots that are the differences of the items
hold : (p : PrimitiveParts) (slots : List ℤ) (one : ℤ) (references : List ℤ) → IsTrue (covers p.validity (length p.slots)) → length slots ≡ length p.slots
    → ((i : ℕ) → i < length p.slots → get_or slots i (pos 0) ≡ minus_reference p.ptype (get_or references (i / 1024) one) (get_or (items_of_primitive p) i None)) → HoldDifferences slots p one references
hold p slots one references covered long each =
    let items = items_of_primitive p in
    let same : IsTrue (covers p.validity (length slots)) = rw long covered in
    let many = length-items_of p.validity p.slots covered in
    let made = length-items_of p.validity slots same in
    let all = length-less p.ptype one references items in (
      long,
      ext_get_or None (items_of p.validity slots) (less_references p.ptype one references items) (omega arith)
          (λ i h.
          let within : i < length p.slots = omega arith in
          let reference = get_or references (i / 1024) one in
          let read = get_or-items_of p.validity p.slots i (pos 0) covered within in
          get_or-items_of p.validity slots i (pos 0) same (omega arith)
          ∙ (ap (λ z. cond (is_valid_at p.validity i) (Some z) None) (each i within ∙ ap (minus_reference p.ptype reference) read)
          ∙ (one_difference p.ptype reference (get_or p.slots i (pos 0)) (is_valid_at p.validity i)
          ∙ (ap (option_map (difference p.ptype reference)) (sym read) ∙ sym (get_or-less p.ptype one references items i (omega arith)))))),
    )

-- the child of one reference
pub one_held : (p : PrimitiveParts) (reference : ℤ) → IsTrue (covers p.validity (length p.slots)) → HoldDifferences (map (minus_reference p.ptype reference) (items_of_primitive p)) p reference []
one_held p reference covered =
    let items = items_of_primitive p in
    let many = length-items_of p.validity p.slots covered in
    hold p (map (minus_reference p.ptype reference) items) reference [] covered (length-map items (minus_reference p.ptype reference) ∙ many)
    (λ i h. get_or-map (minus_reference p.ptype reference) items i None (pos 0) (omega arith))

-- the child of a reference for each chunk
pub chunks_held : (p : PrimitiveParts) (references : List ℤ) (one : ℤ) → one ≡ pos 0 → IsTrue (covers p.validity (length p.slots)) → HoldDifferences (chunked_slots p.ptype references (items_of_primitive p)) p one references
chunks_held p references one none covered =
    let items = items_of_primitive p in
    let many = length-items_of p.validity p.slots covered in
    let slot : ℕ → ℤ = λ i. minus_reference p.ptype (get_or references (i / 1024) (pos 0)) (get_or items i None) in
    hold p (chunked_slots p.ptype references items) one references covered (length-table slot (length items) ∙ many)
    (λ i h. get_or-table slot (length items) i (pos 0) (omega arith) ∙ ap (λ z. minus_reference p.ptype (get_or references (i / 1024) z) (get_or items i None)) (sym none))

-- an array of as many slots takes as many bytes
pub plain_alike : (p : PrimitiveParts) (slots : List ℤ) → length slots ≡ length p.slots → primitive_bytes p ≡ primitive_bytes (with_slots p slots)
plain_alike p slots long = ap (λ n. slots_size p.ptype n + validity_bytes n p.validity) (sym long)

-- ---- references of chunks
by_nulls : (order : ItemOrder) (p : PrimitiveParts) (b : Bool) → (nat_lt 0 (length p.slots) && list_all is_none (items_of_primitive p)) ≡ b
    → encode_chunked_by order p ≡ (if b then Nulls (null_constant p.ptype (length p.slots)) (reference_scalar p.ptype (pos 0)) else less_chunk_leasts order p)
by_nulls order p b e = ap (λ c. if c then Nulls (null_constant p.ptype (length p.slots)) (reference_scalar p.ptype (pos 0)) else less_chunk_leasts order p) e

pub nulls_encoded : (order : ItemOrder) (p : PrimitiveParts) → (nat_lt 0 (length p.slots) && list_all is_none (items_of_primitive p)) ≡ true → encode_chunked_by order p ≡ Nulls (null_constant p.ptype (length p.slots)) (reference_scalar p.ptype (pos 0))
nulls_encoded order p e = by_nulls order p true e

by_common : (order : ItemOrder) (p : PrimitiveParts) (references : List ℤ) (common : Option ℤ) → (nat_lt 0 (length p.slots) && list_all is_none (items_of_primitive p)) ≡ false
    → references ≡ chunk_references (reading order p.ptype) (items_of_primitive p) → common ≡ common_reference references → encode_chunked_by order p ≡ less_common p references common
by_common order p references common e f g =
    by_nulls order p false e ∙ (ap (λ rs. less_common p rs (common_reference rs)) (sym f) ∙ ap (less_common p references) (sym g))

pub common_encoded : (order : ItemOrder) (p : PrimitiveParts) (references : List ℤ) (reference : ℤ) → (nat_lt 0 (length p.slots) && list_all is_none (items_of_primitive p)) ≡ false
    → references ≡ chunk_references (reading order p.ptype) (items_of_primitive p) → Some reference ≡ common_reference references → encode_chunked_by order p ≡ Whole (subtract_reference p reference)
common_encoded order p references reference e f g = by_common order p references (Some reference) e f g

pub chunks_encoded : (order : ItemOrder) (p : PrimitiveParts) (references : List ℤ) → (nat_lt 0 (length p.slots) && list_all is_none (items_of_primitive p)) ≡ false
    → references ≡ chunk_references (reading order p.ptype) (items_of_primitive p) → None ≡ common_reference references → encode_chunked_by order p ≡ ByChunk (with_slots p (chunked_slots p.ptype references (items_of_primitive p))) (non_nullable p.ptype references)
chunks_encoded order p references e f g = by_common order p references None e f g
