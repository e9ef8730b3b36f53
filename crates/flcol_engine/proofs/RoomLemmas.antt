-- The nodes of an array have room in a container where they are at most sixteen deep, as those of an encoded column are.
use Rattle.std.proofs.Common.{◌≡◌, ℕ, zero, suc, max, ◌+◌, ◌*◌, ◌/◌, ◌-◌, ◌^◌, ◌<◌, ◌≤◌, ◌≢◌, Bool, true, false, List, [], ◌∷◌, ◌++◌, length, Option, Some, None, Ok, Err, refl, sym, subst, arith, inl, inr}
use Rattle.std.specs.Prelude.{Result, nat_lt, unwrap_or, if◌then◌else◌, option_map}
use Rattle.std.proofs.lemmas.Bool.{cases_lt, lt-ltb, le-ltb}
use Rattle.std.proofs.lemmas.List.{length-append}
use Rattle.fl_types.specs.declared.dtype.DType.{DType}
use Rattle.fl_types.specs.declared.dtype.DType.TheVariants as dtypes
use Rattle.fl_types.specs.declared.dtype.PType.TheVariants.{U8}
use Rattle.fl_types.specs.Types.{integer_type}
use Rattle.fl_types.specs.Values.{ScalarParts}
use Rattle.fl_types.specs.Validities.{nullability_of}
use Rattle.fl_types.specs.declared.error.FastLanesError.{FastLanesError}
use Rattle.fl_types.specs.declared.validity.Validity.{Validity}
use Rattle.fl_types.specs.declared.validity.Validity.TheVariants as valid
use Rattle.fl_column.specs.Columns.{PrimitiveParts, ptype_of_column}
use Rattle.fl_patches.specs.PatchMaps.{PatchesParts}
use Rattle.fl_bitpacking.specs.Blocks.{boundary_array}
use Rattle.fl_bitpacking.specs.Columns.{BitPackedParts}
use Rattle.fl_bitpacking.specs.Encoders.{best_width_of, best_widths_of}
use Rattle.fl_codec.specs.Parts.{ByChunk, FoRParts, Nulls, OneReference, Whole, compress_deltas, encode_chunked_by, encode_global_by, encode_runs}
use Rattle.fl_codec.specs.declared.for_.ItemOrder.TheVariants.{Natural}
use Rattle.fl_metadata.specs.Messages.{delta_slots, for_chunked_slots, patches_slots, patches_text, rle_slots}
use Rattle.fl_metadata.specs.Scalars.{scalar_slots}
use Rattle.fl_metadata.specs.declared.rle.RLEMetadata.{RLEMetadata}
use Rattle.fl_metadata.specs.Wire.{Bytes, Number, Payload}
use Rattle.fl_metadata.specs.WrittenText.{Slot, field_text, groups_text, message_text, payload_text_at, varint_text}
use Rattle.fl_metadata.specs.declared.patches.PatchesMetadata.{PatchesMetadata}
use Rattle.fl_array.specs.Trees.{BitPackedBlocked, BitPackedGlobal, Constant, Delta, FoRChunked, FoRGlobal, Primitive, RLE, Tree, column}
use Rattle.fl_array.specs.Trees as tree
use Rattle.fl_serialized.specs.Nodes.{And, Head, NoMore, Node, Nodes, Of, depth, depth_of, nodes_of}
use Rattle.fl_serde.specs.Writing.{chunk_offset_nodes, head_written, item_count, metadata_of, packed_nodes, patch_nodes, scalar_bytes, validity_nodes, written}
use Rattle.flcol_container.specs.Container.{node_count}
use Rattle.flcol_container.specs.Outcomes.{IsWriting}
use Rattle.flcol_container.specs.Room.{has_room, have_room, head_has_room}
use Rattle.flcol_container.specs.declared.error.ContainerError.{ContainerError}
use Rattle.flcol_container.specs.declared.error.ContainerError.TheVariants as containers
use Rattle.flcol_engine.specs.declared.commands.Encoding.{Encoding}
use Rattle.flcol_engine.specs.declared.commands.Encoding.TheVariants as encodings
use Rattle.fl_encode.specs.declared.scheme.Packing.{Packing}
use Rattle.fl_encode.specs.declared.scheme.Packing.TheVariants.{BestWidth, BestWidths, Width}
use Rattle.flcol_engine.specs.declared.fault.Fault.{Fault}
use Rattle.flcol_engine.specs.Faults.{of_container, out_of_memory}
use Rattle.flcol_engine.specs.Outputs.{IsStored}
use Rattle.fl_encode.specs.Packings.{IsPackedAs}
use Rattle.fl_encode.specs.Encodings.{HasOneReference, HasReference, HasReferences, IsEncodedAs}
use Rattle.fl_encode.specs.Shapes.{Plain}
use Rattle.flcol_engine.specs.Encodings.{child_of, scheme_of}

-- ---- metadata are short
groups_short : (k n : ℕ) → length (groups_text k n) ≤ k
unfolding groups_text
groups_short zero n = omega arith
groups_short (suc k) n =
    elim (cases_lt n 128) [
      | inl small ↦ rw (lt-ltb n 128 small) (omega arith)
      | inr large ↦ rw (le-ltb n 128 large) (omega (arith, groups_short k (n / 128)))
    ]

varint_short : (n : ℕ) → length (varint_text n) ≤ 10
unfolding varint_text
varint_short n = groups_short 10 n

number_field : (tag n : ℕ) → length (field_text tag (Number n)) ≤ 20
unfolding field_text
number_field tag n = omega (arith, length-append (varint_text (tag * 8 + 0)) (varint_text n), varint_short (tag * 8 + 0), varint_short n)

bytes_field : (tag : ℕ) (held : List ℕ) → length (field_text tag (Bytes held)) ≤ 20 + length held
unfolding field_text
bytes_field tag held =
    let key = length-append (varint_text (tag * 8 + 2)) (varint_text (length held) ++ held) in
    let sum = length-append (varint_text (length held)) held in
    omega (arith, key, sum, varint_short (tag * 8 + 2), varint_short (length held))

-- a number, which may be left out
number_slot : (left_out : Bool) (tag n : ℕ) → length (payload_text_at tag (if left_out then None else Some (Number n))) ≤ 20
number_slot true tag n = omega arith
number_slot false tag n = number_field tag n

stated_slot : (tag : ℕ) (n : Option ℕ) → length (payload_text_at tag (option_map Number n)) ≤ 20
stated_slot tag None = omega arith
stated_slot tag (Some n) = number_field tag n

none_written : length (message_text []) ≡ 0
unfolding message_text
none_written = refl

slot_written : (s : Slot) (ss : List Slot) → length (message_text (s ∷ ss)) ≡ length (payload_text_at s.tag s.payload) + length (message_text ss)
unfolding message_text
slot_written s ss = length-append (payload_text_at s.tag s.payload) (message_text ss)

-- each slot takes at most 20 bytes
abbrev AreNumbers : List Slot → Type 0
AreNumbers [] = Unit {0}
AreNumbers (s ∷ ss) = (length (payload_text_at s.tag s.payload) ≤ 20) × AreNumbers ss

numbers_short : (ss : List Slot) → AreNumbers ss → length (message_text ss) ≤ 20 * length ss
numbers_short [] h = omega (arith, none_written)
numbers_short (s ∷ ss) h = omega (arith, slot_written s ss, h.0, numbers_short ss h.1)

patches_short : (m : PatchesMetadata) → length (patches_text m) ≤ 100
patches_short m = numbers_short (patches_slots m) (number_slot _ 1 _, (number_slot _ 2 _, (number_slot _ 3 _, (number_slot _ 4 _, (stated_slot 5 _, tt)))))

-- patches, which may be left out
patches_slot : (tag : ℕ) (m : Option PatchesMetadata) → length (payload_text_at tag (option_map Bytes (option_map patches_text m))) ≤ 120
patches_slot tag None = omega arith
patches_slot tag (Some m) = omega (arith, bytes_field tag (patches_text m), patches_short m)

with_patches : (a b c : Slot) → length (payload_text_at a.tag a.payload) ≤ 20 → length (payload_text_at b.tag b.payload) ≤ 20 → length (payload_text_at c.tag c.payload) ≤ 120 → length (message_text (a ∷ b ∷ c ∷ [])) ≤ 160
with_patches a b c first second third = omega (arith, slot_written a (b ∷ c ∷ []), slot_written b (c ∷ []), slot_written c [], none_written, first, second, third)

scalar_short : (scalar : ScalarParts) → length (scalar_bytes scalar) ≤ 160
scalar_short scalar = omega (arith, numbers_short (scalar_slots (unwrap_or (integer_type scalar.dtype) U8) scalar.value) (stated_slot _ _, tt))

metadata_short : (t : Tree) → length (metadata_of t) ≤ 160
metadata_short (Primitive p) = omega arith
metadata_short (Constant c) = scalar_short c.scalar
metadata_short (tree.Bool b) = omega arith
metadata_short (BitPackedGlobal parts width) = with_patches _ _ _ (number_slot _ 1 _) (number_slot _ 2 _) (patches_slot 3 _)
metadata_short (BitPackedBlocked parts boundaries) = with_patches _ _ _ (number_slot _ 1 _) (number_slot _ 2 _) (patches_slot 3 _)
metadata_short (FoRGlobal encoded reference) = scalar_short reference
metadata_short (FoRChunked encoded references offset) = omega (arith, numbers_short (for_chunked_slots (record { offset = offset })) (number_slot _ 1 _, tt))
metadata_short (Delta bases deltas parts) = omega (arith, numbers_short (delta_slots (record { deltas_len = item_count deltas; offset = parts.offset })) (number_slot _ 1 _, (number_slot _ 2 _, tt)))
metadata_short (RLE values indices offsets window) =
    let m : RLEMetadata = record { values_len = item_count values; indices_len = item_count indices; indices = ptype_of_column (column indices); values_idx_offsets_len = item_count offsets; values_idx_offsets = ptype_of_column (column offsets); offset = window.offset } in
    omega (arith, numbers_short (rle_slots m) (number_slot _ 1 _, (number_slot _ 2 _, (number_slot _ 3 _, (number_slot _ 4 _, (number_slot _ 5 _, (number_slot _ 6 _, tt)))))))

-- ---- each part of a node has room
abbrev mutual
  -- the parts of a node and of the nodes in it have room, however deep these stand
  IsRoomy : Node → Type 0
  IsRoomy (Of head children) = (head_has_room head ≡ true) × (node_count children < 2 ^ 8) × AreRoomy children

  AreRoomy : Nodes → Type 0
  AreRoomy NoMore = Unit {0}
  AreRoomy (And node nodes) = IsRoomy node × AreRoomy nodes

mutual
  has_room_by_depth : (node : Node) (d : ℕ) → IsRoomy node → depth node ≤ d → has_room d node ≡ true
  has_room_by_depth (Of head children) d roomy le = rw (lt-ltb 0 d (omega (arith, le)), roomy.0, lt-ltb (node_count children) (2 ^ 8) roomy.1, have_room_by_depth children (d - 1) roomy.2 (omega (arith, le))) refl

  have_room_by_depth : (nodes : Nodes) (d : ℕ) → AreRoomy nodes → depth_of nodes ≤ d → have_room d nodes ≡ true
  have_room_by_depth NoMore d roomy le = refl
  have_room_by_depth (And node nodes) d roomy le = rw (has_room_by_depth node d roomy.0 (omega (arith, le)), have_room_by_depth nodes d roomy.1 (omega (arith, le))) refl

both_roomy : (xs ys : List Node) → AreRoomy (nodes_of xs) → AreRoomy (nodes_of ys) → AreRoomy (nodes_of (xs ++ ys))
both_roomy [] ys first second = second
both_roomy (x ∷ xs) ys first second = (first.0, both_roomy xs ys first.1 second)

both_counted : (xs ys : List Node) → node_count (nodes_of (xs ++ ys)) ≡ node_count (nodes_of xs) + node_count (nodes_of ys)
both_counted [] ys = omega arith
both_counted (x ∷ xs) ys = omega (arith, both_counted xs ys)

both_deep : (xs ys : List Node) (d : ℕ) → depth_of (nodes_of xs) ≤ d → depth_of (nodes_of ys) ≤ d → depth_of (nodes_of (xs ++ ys)) ≤ d
both_deep [] ys d first second = second
both_deep (x ∷ xs) ys d first second = omega (arith, both_deep xs ys d (omega (arith, first)) second, first)

validity_roomy : (len : ℕ) (v : Validity) → AreRoomy (nodes_of (validity_nodes len v))
validity_roomy len valid.NonNullable = tt
validity_roomy len valid.AllValid = tt
validity_roomy len valid.AllInvalid = ((refl, omega arith, tt), tt)
validity_roomy len (valid.Array bits) = ((refl, omega arith, tt), tt)

validity_counted : (len : ℕ) (v : Validity) → node_count (nodes_of (validity_nodes len v)) ≤ 1
validity_counted len valid.NonNullable = omega arith
validity_counted len valid.AllValid = omega arith
validity_counted len valid.AllInvalid = omega arith
validity_counted len (valid.Array bits) = omega arith

validity_deep : (len : ℕ) (v : Validity) → depth_of (nodes_of (validity_nodes len v)) ≤ 1
validity_deep len valid.NonNullable = omega arith
validity_deep len valid.AllValid = omega arith
validity_deep len valid.AllInvalid = omega arith
validity_deep len (valid.Array bits) = omega arith

offsets_roomy : (offsets : Option PrimitiveParts) → AreRoomy (nodes_of (chunk_offset_nodes offsets))
offsets_roomy None = tt
offsets_roomy (Some p) = ((refl, omega arith, tt), tt)

patches_roomy : (dtype : DType) (patches : Option PatchesParts) → AreRoomy (nodes_of (patch_nodes dtype patches))
patches_roomy dtype None = tt
patches_roomy dtype (Some p) = ((refl, omega arith, tt), ((refl, omega arith, tt), offsets_roomy p.chunk_offsets))

offsets_counted : (offsets : Option PrimitiveParts) → node_count (nodes_of (chunk_offset_nodes offsets)) ≤ 1
offsets_counted None = omega arith
offsets_counted (Some p) = omega arith

patches_counted : (dtype : DType) (patches : Option PatchesParts) → node_count (nodes_of (patch_nodes dtype patches)) ≤ 3
patches_counted dtype None = omega arith
patches_counted dtype (Some p) = omega (arith, offsets_counted p.chunk_offsets)

offsets_deep : (offsets : Option PrimitiveParts) → depth_of (nodes_of (chunk_offset_nodes offsets)) ≤ 1
offsets_deep None = omega arith
offsets_deep (Some p) = omega arith

patches_deep : (dtype : DType) (patches : Option PatchesParts) → depth_of (nodes_of (patch_nodes dtype patches)) ≤ 1
patches_deep dtype None = omega arith
patches_deep dtype (Some p) = omega (arith, offsets_deep p.chunk_offsets)

packed_roomy : (parts : BitPackedParts) → AreRoomy (nodes_of (packed_nodes parts))
packed_roomy parts = both_roomy (patch_nodes (dtypes.Primitive parts.ptype (nullability_of parts.validity)) parts.patches) (validity_nodes parts.len parts.validity) (patches_roomy (dtypes.Primitive parts.ptype (nullability_of parts.validity)) parts.patches) (validity_roomy parts.len parts.validity)

packed_counted : (parts : BitPackedParts) → node_count (nodes_of (packed_nodes parts)) ≤ 4
packed_counted parts = omega (arith, both_counted (patch_nodes (dtypes.Primitive parts.ptype (nullability_of parts.validity)) parts.patches) (validity_nodes parts.len parts.validity), patches_counted (dtypes.Primitive parts.ptype (nullability_of parts.validity)) parts.patches, validity_counted parts.len parts.validity)

packed_deep : (parts : BitPackedParts) → depth_of (nodes_of (packed_nodes parts)) ≤ 1
packed_deep parts = both_deep (patch_nodes (dtypes.Primitive parts.ptype (nullability_of parts.validity)) parts.patches) (validity_nodes parts.len parts.validity) 1 (patches_deep (dtypes.Primitive parts.ptype (nullability_of parts.validity)) parts.patches) (validity_deep parts.len parts.validity)

short_enough : (t : Tree) → nat_lt (length (metadata_of t)) (2 ^ 32) ≡ true
short_enough t = lt-ltb (length (metadata_of t)) (2 ^ 32) (omega (arith, metadata_short t))

head_roomy : (t : Tree) → head_has_room (head_written t) ≡ true
head_roomy (Primitive p) = refl
head_roomy (Constant c) = rw (short_enough (Constant c)) refl
head_roomy (tree.Bool b) = refl
head_roomy (BitPackedGlobal parts width) = rw (short_enough (BitPackedGlobal parts width)) refl
head_roomy (BitPackedBlocked parts boundaries) = rw (short_enough (BitPackedBlocked parts boundaries)) refl
head_roomy (FoRGlobal encoded reference) = rw (short_enough (FoRGlobal encoded reference)) refl
head_roomy (FoRChunked encoded references offset) = rw (short_enough (FoRChunked encoded references offset)) refl
head_roomy (Delta bases deltas parts) = rw (short_enough (Delta bases deltas parts)) refl
head_roomy (RLE values indices offsets window) = rw (short_enough (RLE values indices offsets window)) refl

node_roomy : (t : Tree) → IsRoomy (written t)
node_roomy (Primitive p) = (head_roomy (Primitive p), omega (arith, validity_counted (length p.slots) p.validity), validity_roomy (length p.slots) p.validity)
node_roomy (Constant c) = (head_roomy (Constant c), omega arith, tt)
node_roomy (tree.Bool b) = (head_roomy (tree.Bool b), omega (arith, validity_counted (length b.bits) b.validity), validity_roomy (length b.bits) b.validity)
node_roomy (BitPackedGlobal parts width) = (head_roomy (BitPackedGlobal parts width), omega (arith, packed_counted parts), packed_roomy parts)
node_roomy (BitPackedBlocked parts boundaries) = (head_roomy (BitPackedBlocked parts boundaries), omega (arith, both_counted (packed_nodes parts) (written boundaries ∷ []), packed_counted parts), both_roomy (packed_nodes parts) (written boundaries ∷ []) (packed_roomy parts) (node_roomy boundaries, tt))
node_roomy (FoRGlobal encoded reference) = (head_roomy (FoRGlobal encoded reference), omega arith, (node_roomy encoded, tt))
node_roomy (FoRChunked encoded references offset) = (head_roomy (FoRChunked encoded references offset), omega arith, (node_roomy encoded, (node_roomy references, tt)))
node_roomy (Delta bases deltas parts) = (head_roomy (Delta bases deltas parts), omega (arith, validity_counted parts.len parts.validity), (node_roomy bases, (node_roomy deltas, validity_roomy parts.len parts.validity)))
node_roomy (RLE values indices offsets window) = (head_roomy (RLE values indices offsets window), omega arith, (node_roomy values, (node_roomy indices, (node_roomy offsets, tt))))

-- an array without room is too deep
pub too_deep : (t : Tree) → has_room 16 (written t) ≡ false → 16 < depth (written t)
too_deep t lacks =
    elim (cases_lt 16 (depth (written t))) [
      | inl deep ↦ deep
      | inr le ↦ let yes : has_room 16 (written t) ≡ true = has_room_by_depth (written t) 16 (node_roomy t) le in absurd cc
    ]

-- so what has no container is too deep
pub refused_too_deep : {X : Type 0} (view : X → List ℕ) (t : Tree) (node : Node) (e : ContainerError) (f : Fault) → written t ≡ node → (let r : Result X ContainerError = Err e in IsWriting view node r) → f ≡ of_container e → (f ≢ out_of_memory → IsStored t (Err f))
refused_too_deep view t node containers.BadContainer f is lacks same ne =
    let without : has_room 16 (written t) ≡ false = subst (λ n. has_room 16 n ≡ false) (sym is) lacks.0 in
    subst (λ g. IsStored t (Err g)) (sym same) (too_deep t without)
refused_too_deep view t node containers.OutOfMemory f is lacks same ne = absurd (ne same)

-- ---- an encoded column is no deeper than four nodes
primitive_shallow : (p : PrimitiveParts) → depth (written (Primitive p)) ≤ 2
primitive_shallow p = omega (arith, validity_deep (length p.slots) p.validity)

global_shallow : (parts : BitPackedParts) (width : ℕ) → depth (written (BitPackedGlobal parts width)) ≤ 2
global_shallow parts width = omega (arith, packed_deep parts)

blocked_shallow : (parts : BitPackedParts) (p : PrimitiveParts) → depth (written (BitPackedBlocked parts (Primitive p))) ≤ 3
blocked_shallow parts p = omega (arith, both_deep (packed_nodes parts) (written (Primitive p) ∷ []) 2 (omega (arith, packed_deep parts)) (omega (arith, primitive_shallow p)))

packed_shallow : (packing : Packing) (p : PrimitiveParts) (t : Tree) → IsPackedAs packing p t → depth (written t) ≤ 3
packed_shallow (Width width) p t (parts, is, e) = rw e (omega (arith, global_shallow parts width))
packed_shallow BestWidth p t (parts, is, e) = rw e (omega (arith, global_shallow parts (best_width_of p)))
packed_shallow BestWidths p t (parts, is, e) = rw e (blocked_shallow parts (boundary_array (best_widths_of p)))

child_shallow : (packing : Option Packing) (p : PrimitiveParts) (t : Tree) → IsEncodedAs (child_of packing) p t → depth (written t) ≤ 3
child_shallow None p t e = rw e (omega (arith, primitive_shallow p))
child_shallow (Some packing) p t is = packed_shallow packing p t is

one_reference_shallow : (packing : Option Packing) (parts : OneReference) (t : Tree) → HasOneReference (IsEncodedAs (child_of packing)) parts t → depth (written t) ≤ 4
one_reference_shallow packing parts t (child, is, e) = rw e (omega (arith, child_shallow packing parts.child child is))

reference_shallow : (packing : Option Packing) (r : Result OneReference FastLanesError) (t : Tree) → HasReference (IsEncodedAs (child_of packing)) r t → depth (written t) ≤ 4
reference_shallow packing (Ok parts) t is = one_reference_shallow packing parts t is
reference_shallow packing (Err refusal) t is = absurd is

references_shallow : (packing : Option Packing) (parts : FoRParts) (t : Tree) → HasReferences (IsEncodedAs (child_of packing)) (IsEncodedAs Plain) parts t → depth (written t) ≤ 4
references_shallow packing (Whole parts) t is = one_reference_shallow packing parts t is
references_shallow packing (ByChunk plain references) t (child, others, is, same, e) = rw (e, same) (omega (arith, child_shallow packing plain child is, primitive_shallow references))
references_shallow packing (Nulls child reference) t e = rw e (omega arith)

pub encoded_shallow : (encoding : Encoding) (p : PrimitiveParts) (t : Tree) → IsEncodedAs (scheme_of encoding) p t → depth (written t) ≤ 4
encoded_shallow encodings.Primitive p t e = rw e (omega (arith, primitive_shallow p))
encoded_shallow (encodings.BitPacked packing) p t is = omega (arith, packed_shallow packing p t is)
encoded_shallow (encodings.FoR packing) p t is = reference_shallow packing (encode_global_by Natural p) t is
encoded_shallow (encodings.ChunkedFoR packing) p t is = references_shallow packing (encode_chunked_by Natural p) t is
encoded_shallow (encodings.Delta packing) p t (bases, deltas, same, is, e) =
    rw (e, same) (omega (arith, child_shallow packing (compress_deltas p).1 deltas is, primitive_shallow (compress_deltas p).0, validity_deep (length p.slots) p.validity))
encoded_shallow (encodings.RLE packing) p t (values, indices, offsets, first, is, last, e) =
    rw (e, first, last) (omega (arith, child_shallow packing (encode_runs p).indices indices is, primitive_shallow (encode_runs p).values, primitive_shallow (encode_runs p).offsets))
