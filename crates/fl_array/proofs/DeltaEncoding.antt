-- What delta encoding makes is a delta array.
use Rattle.std.proofs.Common.{◌≡◌, ◌*◌, ◌/◌, ℕ, ℤ, List, length, None, IsTrue, refl, ap, sym, ◌∙◌, arith}
use Rattle.fl_types.specs.declared.dtype.PType.{PType}
use Rattle.fl_types.specs.declared.validity.Validity.{Validity}
use Rattle.fl_types.specs.Integers.{lanes_of_type}
use Rattle.fl_types.specs.Validities.{covers}
use Rattle.fl_column.specs.Columns.{PrimitiveParts, column_of_primitive}
use Rattle.fl_column.proofs.ItemLaws.{length-items_of}
use Rattle.fl_codec.specs.Chunks.{chunks_of}
use Rattle.fl_codec.specs.DeltaRefusals.{delta_refusal}
use Rattle.fl_codec.specs.Deltas.{delta_column}
use Rattle.fl_codec.specs.Parts.{compress_deltas, items_of_primitive, non_nullable}
use Rattle.fl_codec.proofs.ColumnParts.{integers_of_non_nullable}
use Rattle.fl_codec.proofs.DeltaSlices.{no_delta_refusal}
use Rattle.fl_codec.proofs.FirstRefusals.{is_same_ptype}
use Rattle.fl_codec.proofs.Tables.{length-table}
use Rattle.fl_array.specs.Trees.{column_of_delta}

length-plain : (ptype : PType) (xs : List ℤ) → length (column_of_primitive (non_nullable ptype xs)).items ≡ length xs
length-plain ptype xs = length-items_of (non_nullable ptype xs).validity xs refl

pub compressed_accepted : (p : PrimitiveParts) → IsTrue (covers p.validity (length p.slots)) → delta_refusal (column_of_primitive (compress_deltas p).0) (column_of_primitive (compress_deltas p).1) p.validity 0 (length p.slots) ≡ None
compressed_accepted p covered =
    let blocks = chunks_of (length (items_of_primitive p)) in
    let items : length (items_of_primitive p) ≡ length p.slots = length-items_of p.validity p.slots covered in
    let bases : length (column_of_primitive (compress_deltas p).0).items ≡ lanes_of_type p.ptype * blocks = length-plain p.ptype (compress_deltas p).0.slots ∙ length-table _ (lanes_of_type p.ptype * blocks) in
    let deltas : length (column_of_primitive (compress_deltas p).1).items ≡ 1024 * blocks = length-plain p.ptype (compress_deltas p).1.slots ∙ length-table _ (1024 * blocks) in
    let whole : 1024 * blocks / 1024 ≡ blocks = omega arith in
    no_delta_refusal (column_of_primitive (compress_deltas p).0) (column_of_primitive (compress_deltas p).1) p.validity 0 (length p.slots) (record {
      low = omega arith;
      range = omega arith;
      non_nullable_bases = refl;
      non_nullable_deltas = refl;
      same = is_same_ptype p.ptype p.ptype refl;
      integer = refl;
      covered = covered;
      whole = rw deltas (omega arith);
      count = rw (deltas, whole) bases;
    })

-- its column
pub compressed_column : (p : PrimitiveParts) → column_of_delta (column_of_primitive (compress_deltas p).0) (column_of_primitive (compress_deltas p).1) (record { validity = p.validity; offset = 0; len = length p.slots })
    ≡ delta_column p.ptype (compress_deltas p).0.slots (compress_deltas p).1.slots p.validity 0 (length p.slots)
compressed_column p = rw (integers_of_non_nullable p.ptype (compress_deltas p).0.slots, integers_of_non_nullable p.ptype (compress_deltas p).1.slots) refl

-- the same of the parts that were made
pub encoded_accepted : (p b d : PrimitiveParts) (v : Validity) (n : ℕ) → compress_deltas p ≡ (b, d) → v ≡ p.validity → n ≡ length p.slots → IsTrue (covers p.validity (length p.slots)) → delta_refusal (column_of_primitive b) (column_of_primitive d) v 0 n ≡ None
encoded_accepted p b d v n e f g covered =
    let first : (compress_deltas p).0 ≡ b = ap (λ (x : PrimitiveParts × PrimitiveParts). x.0) e in
    let second : (compress_deltas p).1 ≡ d = ap (λ (x : PrimitiveParts × PrimitiveParts). x.1) e in
    rw (sym first, sym second, f, g) (compressed_accepted p covered)

pub encoded_back : (p b d : PrimitiveParts) (v : Validity) (n : ℕ) → compress_deltas p ≡ (b, d) → v ≡ p.validity → n ≡ length p.slots
    → delta_column p.ptype (compress_deltas p).0.slots (compress_deltas p).1.slots p.validity 0 (length p.slots) ≡ column_of_primitive p
    → column_of_delta (column_of_primitive b) (column_of_primitive d) (record { validity = v; offset = 0; len = n }) ≡ column_of_primitive p
encoded_back p b d v n e f g back =
    let first : (compress_deltas p).0 ≡ b = ap (λ (x : PrimitiveParts × PrimitiveParts). x.0) e in
    let second : (compress_deltas p).1 ≡ d = ap (λ (x : PrimitiveParts × PrimitiveParts). x.1) e in
    rw (sym first, sym second, f, g) (compressed_column p ∙ back)
