-- The values that a message's fields have: those of their types.
use Rattle.std.specs.Prelude.{◌<◌, ◌^◌, IfSome}
use Rattle.fl_metadata.specs.declared.patches.PatchesMetadata.{PatchesMetadata}
use Rattle.fl_metadata.specs.declared.bit_packed.BitPackedMetadata.{BitPackedMetadata}
use Rattle.fl_metadata.specs.declared.bit_packed.BitPackedBlockedMetadata.{BitPackedBlockedMetadata}
use Rattle.fl_metadata.specs.declared.for_chunked.FoRChunkedMetadata.{FoRChunkedMetadata}
use Rattle.fl_metadata.specs.declared.delta.DeltaMetadata.{DeltaMetadata}
use Rattle.fl_metadata.specs.declared.rle.RLEMetadata.{RLEMetadata}

-- the fields of a Delta message fit their types
pub record DeltaFits (m : DeltaMetadata) : Type 0 where
  pub deltas_len : m.deltas_len < 2 ^ 64
  pub offset : m.offset < 2 ^ 32

-- the fields of the message of a chunked FoR array fit their types
pub record FoRChunkedFits (m : FoRChunkedMetadata) : Type 0 where
  pub offset : m.offset < 2 ^ 32

-- the fields of an RLE message fit their types
pub record RLEFits (m : RLEMetadata) : Type 0 where
  pub values_len : m.values_len < 2 ^ 64
  pub indices_len : m.indices_len < 2 ^ 64
  pub values_idx_offsets_len : m.values_idx_offsets_len < 2 ^ 64
  pub offset : m.offset < 2 ^ 64

-- the fields of a patches message fit their types
pub record PatchesFit (m : PatchesMetadata) : Type 0 where
  pub len : m.len < 2 ^ 64
  pub offset : m.offset < 2 ^ 64
  pub chunk_offsets_len : m.chunk_offsets_len < 2 ^ 64

-- the fields of the message of a bit-packed array of one width fit their types
pub record BitPackedFits (m : BitPackedMetadata) : Type 0 where
  pub bit_width : m.bit_width < 2 ^ 32
  pub offset : m.offset < 2 ^ 32
  pub patches : IfSome m.patches PatchesFit

-- the fields of the message of a bit-packed array of a width per block fit their types
pub record BitPackedBlockedFits (m : BitPackedBlockedMetadata) : Type 0 where
  pub offset : m.offset < 2 ^ 32
  pub patches : IfSome m.patches PatchesFit
