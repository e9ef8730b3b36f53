-- Items that are integers of packed blocks, with or without a reference.
use Rattle.std.specs.Prelude.{◌+◌, ◌-◌, ◌/◌, ◌+ℤ◌, ℕ, ℤ, List, Option, Some, None, length, min, option_map}
use Rattle.std.specs.List.{slice_get}
use Rattle.fl_types.specs.declared.dtype.PType.{PType}
use Rattle.fl_types.specs.declared.dtype.DType.TheVariants.{Primitive}
use Rattle.fl_types.specs.Bits.{tabulate}
use Rattle.fl_types.specs.Integers.{wrap}
use Rattle.fl_types.specs.Validities.{nullability_of}
use Rattle.fl_column.specs.Columns.{Column}
use Rattle.fl_bitpacking.specs.Blocks.{Blocks, item_of_blocks}
use Rattle.fl_bitpacking.specs.Columns.{BitPackedParts, packed_item}

-- the reference of block j: the last one where there are fewer, none where there are none
abbrev pub block_reference : List ℤ → ℕ → Option ℤ
block_reference references j = slice_get references (min j (length references - 1))

-- an integer plus a reference, modulo 2 to the type's bits, if there is one
abbrev pub plus_if_some : PType → Option ℤ → ℤ → ℤ
plus_if_some ptype None z = z
plus_if_some ptype (Some reference) z = wrap ptype (z +ℤ reference)

-- an integer of block j plus the reference of the block, if it has one
unfoldable pub plus_block_reference : PType → List ℤ → ℕ → ℤ → ℤ
plus_block_reference ptype references j z = plus_if_some ptype (block_reference references j) z

-- the item that the integer at position p of packed blocks stands for, by its block
unfoldable pub decoded_item : (ℕ → ℤ → ℤ) → PType → Blocks → List ℕ → ℕ → ℤ
decoded_item item ptype blocks bytes p = item (p / 1024) (item_of_blocks ptype blocks bytes p)

-- the column of the items that the integers of packed blocks, or their patches, stand for by their blocks
abbrev pub decoded_column : (ℕ → ℤ → ℤ) → BitPackedParts → Blocks → Column
decoded_column item parts blocks = record {
  dtype = Primitive parts.ptype (nullability_of parts.validity);
  items = tabulate (λ i. option_map (item ((parts.offset + i) / 1024)) (packed_item parts blocks i)) parts.len;
}
