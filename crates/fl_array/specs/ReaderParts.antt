-- The parts of a reader.
use Rattle.std.specs.Prelude.{◌≡◌, ◌+◌, ◌/◌, ◌<◌, ◌≤◌, ◌^◌, ℕ, length}
use Rattle.fl_types.specs.Values.{integer_of, ptype_of_value}
use Rattle.fl_column.specs.Columns.{Column, PrimitiveParts, column_of_constant, column_of_primitive, ptype_of_column}
use Rattle.fl_codec.specs.FoRColumns.{chunked_for, global_for}
use Rattle.fl_array.specs.DeltaArrays.{DeltaArrayParts, tree_of_delta}
use Rattle.fl_array.specs.NoNulls.{HasNoNulls}
use Rattle.fl_array.specs.PackedSums.{ArePackedSums, column_of_sums}
use Rattle.fl_array.specs.PrimitiveCows.{primitive_of_cow}
use Rattle.fl_array.specs.Readers.{Prepared}
use Rattle.fl_array.specs.Trees.{column}
use Rattle.fl_array.specs.declared.reader.direct.Part.{Part}
use Rattle.fl_array.specs.declared.reader.direct.Part.TheVariants.{Constant, Decoded, Delta, FoR, FoRChunked, Packed, Primitive}

-- the column that the parts stand for, by those of the readers in them
abbrev pub column_of_part : Part → Column
column_of_part (Primitive plain) = column_of_primitive plain.now
column_of_part (Constant constant) = column_of_constant constant.now
column_of_part (Packed packed) = column_of_sums packed
column_of_part (FoR reference encoded) = global_for (integer_of reference) encoded.value.column
column_of_part (FoRChunked references offset encoded) = chunked_for (primitive_of_cow references).slots offset encoded.value.column
column_of_part (Delta array bases deltas) = column (tree_of_delta array.now)
column_of_part (Decoded plain) = column_of_primitive plain

-- the position of the first item in its block
abbrev pub offset_of_part : Part → ℕ
offset_of_part (Primitive plain) = 0
offset_of_part (Constant constant) = 0
offset_of_part (Packed packed) = packed.array.now.parts.offset
offset_of_part (FoR reference encoded) = encoded.value.offset
offset_of_part (FoRChunked references offset encoded) = encoded.value.offset
offset_of_part (Delta array bases deltas) = array.now.parts.offset
offset_of_part (Decoded plain) = 0

-- how deep the parts are
abbrev pub depth_of_part : Part → ℕ
depth_of_part (Primitive plain) = 0
depth_of_part (Constant constant) = 0
depth_of_part (Packed packed) = 0
depth_of_part (FoR reference encoded) = encoded.value.depth + 1
depth_of_part (FoRChunked references offset encoded) = encoded.value.depth + 1
depth_of_part (Delta array bases deltas) = deltas.value.depth + 1
depth_of_part (Decoded plain) = 0

-- what the reader reads
abbrev pub prepared : Part → Prepared
prepared part = record { column = column_of_part part; offset = offset_of_part part; depth = depth_of_part part }

-- references of the chunks of a column, whose first item is at an offset in its chunk: of its type, one for each
pub record AreReferences (references : PrimitiveParts) (offset : ℕ) (c : Column) : Type 0 where
  pub typed : references.ptype ≡ ptype_of_column c
  pub few : offset + length c.items < 2 ^ 64
  pub enough : (offset + length c.items + 1023) / 1024 ≤ length references.slots

-- the bases and the column of the deltas are those of the array, and no delta is null
pub record AreDeltaParts (a : DeltaArrayParts) (bases : PrimitiveParts) (deltas : Column) : Type 0 where
  pub own_bases : column_of_primitive bases ≡ column a.bases
  pub own_deltas : deltas ≡ column a.deltas
  pub no_nulls : HasNoNulls deltas

-- what the reader holds beside an array is made of it
abbrev pub IsPart : Part → Type 0
IsPart (Primitive plain) = Unit {0}
IsPart (Constant constant) = Unit {0}
IsPart (Packed packed) = ArePackedSums packed
IsPart (FoR reference encoded) = ptype_of_value reference ≡ ptype_of_column encoded.value.column
IsPart (FoRChunked references offset encoded) = AreReferences (primitive_of_cow references) offset encoded.value.column
IsPart (Delta array bases deltas) = AreDeltaParts array.now (primitive_of_cow bases) deltas.value.column
IsPart (Decoded plain) = Unit {0}
