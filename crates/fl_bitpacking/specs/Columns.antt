-- Columns of packed blocks, with a validity and patches.
use Rattle.std.specs.Prelude.{◌+◌, ℕ, ℤ, List, Option, Some, None, unwrap_or, if◌then◌else◌}
use Rattle.fl_types.specs.declared.dtype.PType.{PType}
use Rattle.fl_types.specs.declared.dtype.DType.TheVariants.{Primitive}
use Rattle.fl_types.specs.declared.validity.Validity.{Validity}
use Rattle.fl_types.specs.Bits.{tabulate}
use Rattle.fl_types.specs.Validities.{is_valid_at, nullability_of}
use Rattle.fl_column.specs.Columns.{Column}
use Rattle.fl_column.specs.Chunks.{chunk_count}
use Rattle.fl_patches.specs.PatchMaps.{PatchesParts, patched_in}
use Rattle.fl_bitpacking.specs.Blocks.{Blocks, item_of_blocks}

-- what a bit-packed column keeps beside the widths of its blocks
pub record BitPackedParts : Type 0 where
  pub packed : List ℕ
  pub ptype : PType
  pub validity : Validity
  pub patches : Option PatchesParts
  pub offset : ℕ
  pub len : ℕ

-- how many blocks the column has, cut ones too
abbrev pub block_count : BitPackedParts → ℕ
block_count parts = chunk_count (parts.offset + parts.len)

-- item i as its bits stand at position offset + i of the blocks
abbrev pub stored : BitPackedParts → Blocks → ℕ → ℤ
stored parts blocks i = item_of_blocks parts.ptype blocks parts.packed (parts.offset + i)

-- item i: null by the validity, else its patch, else what is stored
unfoldable pub packed_item : BitPackedParts → Blocks → ℕ → Option ℤ
packed_item parts blocks i = if is_valid_at parts.validity i then Some (unwrap_or (patched_in parts.patches i) (stored parts blocks i)) else None

-- the column of the items
abbrev pub column_of_packed : BitPackedParts → Blocks → Column
column_of_packed parts blocks = record { dtype = Primitive parts.ptype (nullability_of parts.validity); items = tabulate (packed_item parts blocks) parts.len }
