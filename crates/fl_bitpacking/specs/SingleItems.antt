-- Single items of bit-packed columns.
use Rattle.std.specs.Prelude.{◌≡◌, ◌+◌, ◌*◌, ◌/◌, ◌%◌, ◌≤◌, ℕ, ℤ, Some, length}
use Rattle.fl_types.specs.declared.dtype.DType.TheVariants.{Primitive}
use Rattle.fl_types.specs.Integers.{bits_of_type}
use Rattle.fl_types.specs.Validities.{nullability_of}
use Rattle.fl_types.specs.Values.{ScalarParts}
use Rattle.fl_bitpacking.specs.Blocks.{Blocks, block_item}
use Rattle.fl_bitpacking.specs.Columns.{BitPackedParts, stored}
use Rattle.fl_bitpacking.specs.Readings.{bytes_at}
use Rattle.fl_bitpacking.specs.declared.packed_data.single_items.BlockExtent.{BlockExtent}

-- a block of this extent lies within the bytes, and its items take at most the type's bits
pub record IsBlockIn (parts : BitPackedParts) (extent : BlockExtent) : Type 0 where
  pub narrow : extent.width ≤ bits_of_type parts.ptype
  pub room : extent.start + 128 * extent.width ≤ length parts.packed

-- this is the extent of the block that holds item i, which lies within the bytes
pub record IsBlockOf (parts : BitPackedParts) (blocks : Blocks) (i : ℕ) (extent : BlockExtent) : Type 0 where
  pub within : IsBlockIn parts extent
  pub start : extent.start ≡ blocks.start ((parts.offset + i) / 1024)
  pub width : extent.width ≡ blocks.width ((parts.offset + i) / 1024)

-- item i as its bits are stored in a block of this extent
abbrev pub stored_in_block : BitPackedParts → BlockExtent → ℕ → ℤ
stored_in_block parts extent i = block_item parts.ptype extent.width (bytes_at extent parts.packed) ((parts.offset + i) % 1024)

-- item i as its bits are stored: without its patch, and also under a null
abbrev pub stored_scalar : BitPackedParts → Blocks → ℕ → ScalarParts
stored_scalar parts blocks i = record { dtype = Primitive parts.ptype (nullability_of parts.validity); value = Some (stored parts blocks i) }
