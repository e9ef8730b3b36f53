-- The messages of serialized arrays: what a text says, and the canonical encoding of each.
use Rattle.std.specs.Prelude.{ℕ, ◌-◌, ◌^◌, List, [], ◌∷◌, ◌==◌, if◌then◌else◌, Option, Some, None, option_map, Result, Ok, Err}
use Rattle.fl_types.specs.declared.error.FastLanesError.{FastLanesError}
use Rattle.fl_types.specs.declared.error.FastLanesError.TheVariants.{UnknownType}
use Rattle.fl_types.specs.declared.dtype.PType.{PType}
use Rattle.fl_types.specs.declared.dtype.PType.TheVariants.{U8, U16, U32, U64, I8, I16, I32, I64}
use Rattle.fl_types.specs.Integers.{code_of}
use Rattle.fl_metadata.specs.Wire.{Payload}
use Rattle.fl_metadata.specs.Schemas.{◌>>=◌, values_of, number_at, optional_number_at, message_at}
use Rattle.fl_metadata.specs.WrittenText.{Slot, number, stated, message, message_text}
use Rattle.fl_metadata.specs.declared.schema.Kind.{Kind}
use Rattle.fl_metadata.specs.declared.schema.Kind.TheVariants.{Unknown, Number, Message}
use Rattle.fl_metadata.specs.declared.patches.PatchesMetadata.{PatchesMetadata}
use Rattle.fl_metadata.specs.declared.bit_packed.BitPackedMetadata.{BitPackedMetadata}
use Rattle.fl_metadata.specs.declared.bit_packed.BitPackedBlockedMetadata.{BitPackedBlockedMetadata}
use Rattle.fl_metadata.specs.declared.for_chunked.FoRChunkedMetadata.{FoRChunkedMetadata}
use Rattle.fl_metadata.specs.declared.delta.DeltaMetadata.{DeltaMetadata}
use Rattle.fl_metadata.specs.declared.rle.RLEMetadata.{RLEMetadata}

-- the greatest number of 32 bits
abbrev pub max32 : ℕ
max32 = 2 ^ 32 - 1

-- the greatest number of 64 bits
abbrev pub max64 : ℕ
max64 = 2 ^ 64 - 1

-- the type that a number stands for
abbrev pub type_numbered : ℕ → Result PType FastLanesError
type_numbered n = if n == 0 then Ok U8 else if n == 1 then Ok U16 else if n == 2 then Ok U32 else if n == 3 then Ok U64
    else if n == 4 then Ok I8 else if n == 5 then Ok I16 else if n == 6 then Ok I32 else if n == 7 then Ok I64 else Err UnknownType

-- the same of a number that may be missing
abbrev pub optional_type_of : Option ℕ → Result (Option PType) FastLanesError
optional_type_of None = Ok None
optional_type_of (Some n) = type_numbered n >>= λ t. Ok (Some t)

-- ---- DeltaMetadata: 1 deltas_len u64, 2 offset u32

-- what a Delta message has under each tag
abbrev pub delta_schema : List Kind
delta_schema = Unknown ∷ Number max64 ∷ Number max32 ∷ []

-- the Delta message that a text says
unfoldable pub delta_metadata_of : List ℕ → Result DeltaMetadata FastLanesError
delta_metadata_of bytes = do
  values ← values_of delta_schema bytes
  Ok (record { deltas_len = number_at 1 values; offset = number_at 2 values })

-- what a Delta message writes, tag by tag
abbrev pub delta_slots : DeltaMetadata → List Slot
delta_slots m = number 1 m.deltas_len ∷ number 2 m.offset ∷ []

-- ---- FoRChunkedMetadata: 1 offset u32

-- what the message of a chunked FoR array has under each tag
abbrev pub for_chunked_schema : List Kind
for_chunked_schema = Unknown ∷ Number max32 ∷ []

-- the message of a chunked FoR array that a text says
unfoldable pub for_chunked_of : List ℕ → Result FoRChunkedMetadata FastLanesError
for_chunked_of bytes = do
  values ← values_of for_chunked_schema bytes
  Ok (record { offset = number_at 1 values })

-- what the message of a chunked FoR array writes, tag by tag
abbrev pub for_chunked_slots : FoRChunkedMetadata → List Slot
for_chunked_slots m = number 1 m.offset ∷ []

-- ---- RLEMetadata: 1 values_len u64, 2 indices_len u64, 3 indices type, 4 values_idx_offsets_len u64,
-- 5 values_idx_offsets type, 6 offset u64

-- what an RLE message has under each tag
abbrev pub rle_schema : List Kind
rle_schema = Unknown ∷ Number max64 ∷ Number max64 ∷ Number max64 ∷ Number max64 ∷ Number max64 ∷ Number max64 ∷ []

-- the RLE message that a text says
unfoldable pub rle_of : List ℕ → Result RLEMetadata FastLanesError
rle_of bytes = do
  values ← values_of rle_schema bytes
  indices ← type_numbered (number_at 3 values)
  values_idx_offsets ← type_numbered (number_at 5 values)
  Ok (record { values_len = number_at 1 values; indices_len = number_at 2 values; indices = indices; values_idx_offsets_len = number_at 4 values; values_idx_offsets = values_idx_offsets; offset = number_at 6 values })

-- what an RLE message writes, tag by tag
abbrev pub rle_slots : RLEMetadata → List Slot
rle_slots m = number 1 m.values_len ∷ number 2 m.indices_len ∷ number 3 (code_of m.indices)
    ∷ number 4 m.values_idx_offsets_len ∷ number 5 (code_of m.values_idx_offsets) ∷ number 6 m.offset ∷ []

-- ---- PatchesMetadata: 1 len u64, 2 offset u64, 3 indices type, 4 chunk_offsets_len u64,
-- 5 chunk_offsets type, which is there where chunk offsets are

-- what a patches message has under each tag
abbrev pub patches_schema : List Kind
patches_schema = Unknown ∷ Number max64 ∷ Number max64 ∷ Number max64 ∷ Number max64 ∷ Number max64 ∷ []

-- the patches that values say, once all fields have been read
unfoldable pub patches_in : List (Option Payload) → Result PatchesMetadata FastLanesError
patches_in values = do
  indices ← type_numbered (number_at 3 values)
  chunk_offsets ← optional_type_of (optional_number_at 5 values)
  Ok (record { len = number_at 1 values; offset = number_at 2 values; indices = indices; chunk_offsets_len = number_at 4 values; chunk_offsets = chunk_offsets })

-- the patches message that a text says
unfoldable pub patches_of : List ℕ → Result PatchesMetadata FastLanesError
patches_of bytes = values_of patches_schema bytes >>= patches_in

-- what a patches message writes, tag by tag
abbrev pub patches_slots : PatchesMetadata → List Slot
patches_slots m = number 1 m.len ∷ number 2 m.offset ∷ number 3 (code_of m.indices)
    ∷ number 4 m.chunk_offsets_len ∷ stated 5 (option_map code_of m.chunk_offsets) ∷ []

-- the values of an embedded message, where it is there
abbrev pub embedded_values : Option (List ℕ) → Result (Option (List (Option Payload))) FastLanesError
embedded_values None = Ok None
embedded_values (Some text) = values_of patches_schema text >>= λ values. Ok (Some values)

-- the patches of an embedded message, where it is there
abbrev pub embedded_patches : Option (List (Option Payload)) → Result (Option PatchesMetadata) FastLanesError
embedded_patches None = Ok None
embedded_patches (Some values) = patches_in values >>= λ patches. Ok (Some patches)

-- the patches that the text of an embedded message says, where it is there
abbrev pub embedded_of : Option (List ℕ) → Result (Option PatchesMetadata) FastLanesError
embedded_of text = embedded_values text >>= embedded_patches

-- the canonical encoding of a patches message
abbrev pub patches_text : PatchesMetadata → List ℕ
patches_text m = message_text (patches_slots m)

-- ---- BitPackedMetadata: 1 bit_width u32, 2 offset u32, 3 patches

-- what the message of a bit-packed array of one width has under each tag
abbrev pub bit_packed_schema : List Kind
bit_packed_schema = Unknown ∷ Number max32 ∷ Number max32 ∷ Message ∷ []

-- the message of a bit-packed array of one width that a text says
unfoldable pub bit_packed_of : List ℕ → Result BitPackedMetadata FastLanesError
bit_packed_of bytes = do
  values ← values_of bit_packed_schema bytes
  embedded ← embedded_values (message_at 3 values)
  patches ← embedded_patches embedded
  Ok (record { bit_width = number_at 1 values; offset = number_at 2 values; patches = patches })

-- what the message of a bit-packed array of one width writes, tag by tag
abbrev pub bit_packed_slots : BitPackedMetadata → List Slot
bit_packed_slots m = number 1 m.bit_width ∷ number 2 m.offset ∷ message 3 (option_map patches_text m.patches) ∷ []

-- ---- BitPackedBlockedMetadata: 1 offset u32, 2 block_offsets type, 3 patches

-- what the message of a bit-packed array of a width per block has under each tag
abbrev pub bit_packed_blocked_schema : List Kind
bit_packed_blocked_schema = Unknown ∷ Number max32 ∷ Number max64 ∷ Message ∷ []

-- the message of a bit-packed array of a width per block that a text says
unfoldable pub bit_packed_blocked_of : List ℕ → Result BitPackedBlockedMetadata FastLanesError
bit_packed_blocked_of bytes = do
  values ← values_of bit_packed_blocked_schema bytes
  embedded ← embedded_values (message_at 3 values)
  block_offsets ← type_numbered (number_at 2 values)
  patches ← embedded_patches embedded
  Ok (record { offset = number_at 1 values; block_offsets = block_offsets; patches = patches })

-- what the message of a bit-packed array of a width per block writes, tag by tag
abbrev pub bit_packed_blocked_slots : BitPackedBlockedMetadata → List Slot
bit_packed_blocked_slots m = number 1 m.offset ∷ number 2 (code_of m.block_offsets) ∷ message 3 (option_map patches_text m.patches) ∷ []
