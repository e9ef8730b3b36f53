-- Bit-packed arrays with references that are added while their blocks are unpacked.
use Rattle.std.specs.Prelude.{◌≡◌, ◌≤◌, ℕ, length}
use Rattle.fl_types.specs.declared.dtype.PType.{PType}
use Rattle.fl_types.specs.Values.{integer_of, ptype_of_value}
use Rattle.fl_column.specs.Columns.{Column}
use Rattle.fl_codec.specs.FoRColumns.{chunked_for, global_for}
use Rattle.fl_bitpacking.specs.Columns.{block_count}
use Rattle.fl_array.specs.BitPackedArrays.{tree_of_bitpacked}
use Rattle.fl_array.specs.BlockWidths.{AreBlockWidths}
use Rattle.fl_array.specs.PrimitiveCows.{primitive_of_cow}
use Rattle.fl_array.specs.Trees.{column}
use Rattle.fl_array.specs.declared.reader.packed.HeldReferences.{HeldReferences}
use Rattle.fl_array.specs.declared.reader.packed.HeldReferences.TheVariants as held
use Rattle.fl_array.specs.declared.reader.packed.PackedSums.{PackedSums}

-- each item of a column plus its reference, if there are references, where the first item is at an offset in its block
abbrev pub plus_held : HeldReferences → ℕ → Column → Column
plus_held held.None offset c = c
plus_held (held.Global reference) offset c = global_for (integer_of reference) c
plus_held (held.PerBlock references) offset c = chunked_for (primitive_of_cow references).slots offset c

-- the references, if there are any, are integers of this type, one for all or one for each of this many blocks
abbrev pub AreHeldReferences : PType → ℕ → HeldReferences → Type 0
AreHeldReferences ptype count held.None = Unit {0}
AreHeldReferences ptype count (held.Global reference) = ptype_of_value reference ≡ ptype
AreHeldReferences ptype count (held.PerBlock references) = ((primitive_of_cow references).ptype ≡ ptype) × (count ≤ length (primitive_of_cow references).slots)

-- the column of the packed items plus their references
abbrev pub column_of_sums : PackedSums → Column
column_of_sums p = plus_held p.added p.array.now.parts.offset (column (tree_of_bitpacked p.array.now))

-- the widths and the references are those of the array's blocks
pub record ArePackedSums (p : PackedSums) : Type 0 where
  pub widths : AreBlockWidths p.array.now p.widths
  pub added : AreHeldReferences p.array.now.parts.ptype (block_count p.array.now.parts) p.added
