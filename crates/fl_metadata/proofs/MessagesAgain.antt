-- Each message that is written is read again.
use Rattle.std.proofs.Common.{◌≡◌, ℕ, ◌+◌, ◌*◌, ◌^◌, ◌<◌, ◌≤◌, List, length, Option, Some, None, Ok, refl, arith, inl, inr}
use Rattle.std.specs.Prelude.{IfSome, option_map}
use Rattle.std.proofs.lemmas.Bool.{cases_eq, eq-eqb, ne_eqb}
use Rattle.std.proofs.lemmas.List.{length-append}
use Rattle.fl_types.specs.declared.dtype.PType.{PType}
use Rattle.fl_types.specs.declared.dtype.PType.TheVariants.{U8, U16, U32, U64, I8, I16, I32, I64}
use Rattle.fl_types.specs.Integers.{code_of}
use Rattle.fl_metadata.specs.Wire.{Number, Bytes}
use Rattle.fl_metadata.specs.Schemas.{values_of, number_at, optional_number_at, message_at, message_held}
use Rattle.fl_metadata.specs.WrittenText.{varint_text, field_text, payload_text_at, message_text, IsOneText, fields_in}
use Rattle.fl_metadata.specs.Messages.{max32, max64, type_numbered, optional_type_of, delta_schema, delta_metadata_of, delta_slots, for_chunked_schema, for_chunked_of, for_chunked_slots, rle_schema, rle_of, rle_slots, patches_schema, patches_in, patches_of, patches_slots, patches_text, embedded_values, embedded_patches, bit_packed_schema, bit_packed_of, bit_packed_slots, bit_packed_blocked_schema, bit_packed_blocked_of, bit_packed_blocked_slots}
use Rattle.fl_metadata.specs.Fits.{DeltaFits, FoRChunkedFits, RLEFits, PatchesFit, BitPackedFits, BitPackedBlockedFits}
use Rattle.fl_metadata.specs.declared.patches.PatchesMetadata.{PatchesMetadata}
use Rattle.fl_metadata.specs.declared.bit_packed.BitPackedMetadata.{BitPackedMetadata}
use Rattle.fl_metadata.specs.declared.bit_packed.BitPackedBlockedMetadata.{BitPackedBlockedMetadata}
use Rattle.fl_metadata.specs.declared.for_chunked.FoRChunkedMetadata.{FoRChunkedMetadata}
use Rattle.fl_metadata.specs.declared.delta.DeltaMetadata.{DeltaMetadata}
use Rattle.fl_metadata.specs.declared.rle.RLEMetadata.{RLEMetadata}
use Rattle.fl_metadata.specs.declared.schema.Kind.TheVariants as kinds
use Rattle.fl_metadata.proofs.WrittenRows.{groups_length, one_text}
use Rattle.fl_metadata.proofs.WrittenRead.{Admits, AdmitsAll, are_writable, read_again, number_payload, admits_number, number_again, stated_again, written_values}

-- ---- types

type_again : (t : PType) → type_numbered (code_of t) ≡ Ok t
type_again U8 = refl
type_again U16 = refl
type_again U32 = refl
type_again U64 = refl
type_again I8 = refl
type_again I16 = refl
type_again I32 = refl
type_again I64 = refl

type_below : (t : PType) → code_of t < 8
type_below U8 = omega arith
type_below U16 = omega arith
type_below U32 = omega arith
type_below U64 = omega arith
type_below I8 = omega arith
type_below I16 = omega arith
type_below I32 = omega arith
type_below I64 = omega arith

types_again : (o : Option PType) → optional_type_of (option_map code_of o) ≡ Ok o
types_again None = refl
types_again (Some t) = rw (type_again t) refl

admits_long : (n : ℕ) → n < 2 ^ 64 → Admits (kinds.Number max64) (number_payload n)
admits_long n lt = admits_number max64 n (omega arith) (omega arith)

admits_short : (n : ℕ) → n < 2 ^ 32 → Admits (kinds.Number max32) (number_payload n)
admits_short n lt = admits_number max32 n (omega arith) (omega arith)

admits_type : (t : PType) → Admits (kinds.Number max64) (number_payload (code_of t))
admits_type t = admits_long (code_of t) (omega (arith, type_below t))

-- ---- Delta

delta_admits : (m : DeltaMetadata) → DeltaFits m → AdmitsAll delta_schema (delta_slots m)
delta_admits m fits = (admits_long m.deltas_len fits.deltas_len, (admits_short m.offset fits.offset, tt))

pub delta_again : (m : DeltaMetadata) → DeltaFits m → delta_metadata_of (message_text (delta_slots m)) ≡ Ok m
unfolding delta_metadata_of number_at optional_number_at
delta_again m fits = rw (read_again delta_schema (delta_slots m) refl (delta_admits m fits), number_again m.deltas_len, number_again m.offset) refl

pub delta_one : (m : DeltaMetadata) → DeltaFits m → IsOneText (fields_in (delta_slots m)) (message_text (delta_slots m))
delta_one m fits = one_text (delta_slots m) refl (are_writable delta_schema (delta_slots m) (delta_admits m fits))

-- ---- chunked FoR

for_chunked_admits : (m : FoRChunkedMetadata) → FoRChunkedFits m → AdmitsAll for_chunked_schema (for_chunked_slots m)
for_chunked_admits m fits = (admits_short m.offset fits.offset, tt)

pub for_chunked_again : (m : FoRChunkedMetadata) → FoRChunkedFits m → for_chunked_of (message_text (for_chunked_slots m)) ≡ Ok m
unfolding for_chunked_of number_at optional_number_at
for_chunked_again m fits = rw (read_again for_chunked_schema (for_chunked_slots m) refl (for_chunked_admits m fits), number_again m.offset) refl

pub for_chunked_one : (m : FoRChunkedMetadata) → FoRChunkedFits m → IsOneText (fields_in (for_chunked_slots m)) (message_text (for_chunked_slots m))
for_chunked_one m fits = one_text (for_chunked_slots m) refl (are_writable for_chunked_schema (for_chunked_slots m) (for_chunked_admits m fits))

-- ---- RLE

rle_admits : (m : RLEMetadata) → RLEFits m → AdmitsAll rle_schema (rle_slots m)
rle_admits m fits = (admits_long m.values_len fits.values_len, (admits_long m.indices_len fits.indices_len, (admits_type m.indices, (admits_long m.values_idx_offsets_len fits.values_idx_offsets_len, (admits_type m.values_idx_offsets, (admits_long m.offset fits.offset, tt))))))

pub rle_again : (m : RLEMetadata) → RLEFits m → rle_of (message_text (rle_slots m)) ≡ Ok m
unfolding rle_of number_at optional_number_at
rle_again m fits = rw (read_again rle_schema (rle_slots m) refl (rle_admits m fits), number_again m.values_len, number_again m.indices_len, number_again (code_of m.indices), number_again m.values_idx_offsets_len, number_again (code_of m.values_idx_offsets), number_again m.offset, type_again m.indices, type_again m.values_idx_offsets) refl

pub rle_one : (m : RLEMetadata) → RLEFits m → IsOneText (fields_in (rle_slots m)) (message_text (rle_slots m))
rle_one m fits = one_text (rle_slots m) refl (are_writable rle_schema (rle_slots m) (rle_admits m fits))

-- ---- patches

admits_stated : (o : Option PType) → Admits (kinds.Number max64) (option_map Number (option_map code_of o))
admits_stated None = tt
admits_stated (Some t) = let below = type_below t in (omega arith, omega arith)

patches_admits : (m : PatchesMetadata) → PatchesFit m → AdmitsAll patches_schema (patches_slots m)
patches_admits m fits = (admits_long m.len fits.len, (admits_long m.offset fits.offset, (admits_type m.indices, (admits_long m.chunk_offsets_len fits.chunk_offsets_len, (admits_stated m.chunk_offsets, tt)))))

patches_read : (m : PatchesMetadata) → PatchesFit m → values_of patches_schema (patches_text m) ≡ Ok (written_values (patches_slots m))
patches_read m fits = read_again patches_schema (patches_slots m) refl (patches_admits m fits)

patches_said : (m : PatchesMetadata) → patches_in (written_values (patches_slots m)) ≡ Ok m
unfolding patches_in number_at optional_number_at
patches_said m = rw (number_again m.len, number_again m.offset, number_again (code_of m.indices), number_again m.chunk_offsets_len, stated_again (option_map code_of m.chunk_offsets), type_again m.indices, types_again m.chunk_offsets) refl

pub patches_again : (m : PatchesMetadata) → PatchesFit m → patches_of (patches_text m) ≡ Ok m
unfolding patches_of
patches_again m fits = rw (patches_read m fits, patches_said m) refl

pub patches_one : (m : PatchesMetadata) → PatchesFit m → IsOneText (fields_in (patches_slots m)) (patches_text m)
patches_one m fits = one_text (patches_slots m) refl (are_writable patches_schema (patches_slots m) (patches_admits m fits))

-- a text of patches is short
varint_length : (n : ℕ) → length (varint_text n) ≤ 10
unfolding varint_text
varint_length n = groups_length 10 n

number_length : (tag n : ℕ) → length (field_text tag (Number n)) ≤ 20
unfolding field_text
number_length tag n = omega (arith, length-append (varint_text (tag * 8 + 0)) (varint_text n), varint_length (tag * 8 + 0), varint_length n)

slot_length : (tag n : ℕ) → length (payload_text_at tag (number_payload n)) ≤ 20
slot_length tag n =
    elim (cases_eq n 0) [
      | inl is ↦ rw (eq-eqb n 0 is) (omega arith)
      | inr ne ↦ rw (ne_eqb n 0 ne) (number_length tag n)
    ]

stated_length : (tag : ℕ) (o : Option ℕ) → length (payload_text_at tag (option_map Number o)) ≤ 20
stated_length tag None = omega arith
stated_length tag (Some n) = number_length tag n

patches_length : (m : PatchesMetadata) → length (patches_text m) < 2 ^ 64
unfolding message_text
patches_length m = simp length-append (omega (arith, slot_length 1 m.len, slot_length 2 m.offset, slot_length 3 (code_of m.indices), slot_length 4 m.chunk_offsets_len, stated_length 5 (option_map code_of m.chunk_offsets)))

admits_patches : (o : Option PatchesMetadata) → Admits kinds.Message (option_map Bytes (option_map patches_text o))
admits_patches None = tt
admits_patches (Some m) = patches_length m

message_again : (o : Option (List ℕ)) → message_held (option_map Bytes o) ≡ o
message_again None = refl
message_again (Some text) = refl

-- ---- bit-packed, of one width

bit_packed_admits : (m : BitPackedMetadata) → BitPackedFits m → AdmitsAll bit_packed_schema (bit_packed_slots m)
bit_packed_admits m fits = (admits_short m.bit_width fits.bit_width, (admits_short m.offset fits.offset, (admits_patches m.patches, tt)))

pub bit_packed_one : (m : BitPackedMetadata) → BitPackedFits m → IsOneText (fields_in (bit_packed_slots m)) (message_text (bit_packed_slots m))
bit_packed_one m fits = one_text (bit_packed_slots m) refl (are_writable bit_packed_schema (bit_packed_slots m) (bit_packed_admits m fits))

-- ---- bit-packed, with a width for each block

bit_packed_blocked_admits : (m : BitPackedBlockedMetadata) → BitPackedBlockedFits m → AdmitsAll bit_packed_blocked_schema (bit_packed_blocked_slots m)
bit_packed_blocked_admits m fits = (admits_short m.offset fits.offset, (admits_type m.block_offsets, (admits_patches m.patches, tt)))

pub bit_packed_blocked_one : (m : BitPackedBlockedMetadata) → BitPackedBlockedFits m → IsOneText (fields_in (bit_packed_blocked_slots m)) (message_text (bit_packed_blocked_slots m))
bit_packed_blocked_one m fits = one_text (bit_packed_blocked_slots m) refl (are_writable bit_packed_blocked_schema (bit_packed_blocked_slots m) (bit_packed_blocked_admits m fits))

embedded_read : (o : Option PatchesMetadata) → IfSome o PatchesFit → embedded_values (option_map patches_text o) ≡ Ok (option_map (λ m. written_values (patches_slots m)) o)
embedded_read None fits = refl
embedded_read (Some m) fits = rw (patches_read m fits) refl

embedded_said : (o : Option PatchesMetadata) → embedded_patches (option_map (λ m. written_values (patches_slots m)) o) ≡ Ok o
embedded_said None = refl
embedded_said (Some m) = rw (patches_said m) refl

pub bit_packed_again : (m : BitPackedMetadata) → BitPackedFits m → bit_packed_of (message_text (bit_packed_slots m)) ≡ Ok m
unfolding bit_packed_of number_at optional_number_at message_at
bit_packed_again m fits = rw (read_again bit_packed_schema (bit_packed_slots m) refl (bit_packed_admits m fits), message_again (option_map patches_text m.patches), embedded_read m.patches fits.patches, embedded_said m.patches, number_again m.bit_width, number_again m.offset) refl

pub bit_packed_blocked_again : (m : BitPackedBlockedMetadata) → BitPackedBlockedFits m → bit_packed_blocked_of (message_text (bit_packed_blocked_slots m)) ≡ Ok m
unfolding bit_packed_blocked_of number_at optional_number_at message_at
bit_packed_blocked_again m fits = rw (read_again bit_packed_blocked_schema (bit_packed_blocked_slots m) refl (bit_packed_blocked_admits m fits), message_again (option_map patches_text m.patches), embedded_read m.patches fits.patches, number_again (code_of m.block_offsets), type_again m.block_offsets, embedded_said m.patches, number_again m.offset) refl
