-- The columns of the parts that encoders make.
use Rattle.std.specs.Prelude.{ℤ, pos, unwrap_or}
use Rattle.fl_types.specs.Values.{ScalarParts}
use Rattle.fl_column.specs.Columns.{Column, column_of_constant, column_of_primitive}
use Rattle.fl_codec.specs.FoRColumns.{chunked_for, global_for}
use Rattle.fl_codec.specs.Parts.{ByChunk, FoRParts, Nulls, OneReference, Whole}

-- the integer of a reference, 0 of a null
abbrev pub reference_integer : ScalarParts → ℤ
reference_integer scalar = unwrap_or scalar.value (pos 0)

-- the column of a child and its one reference
abbrev pub column_of_one_reference : OneReference → Column
column_of_one_reference parts = global_for (reference_integer parts.reference) (column_of_primitive parts.child)

-- the column of a FoR, whose chunks start with the child
abbrev pub column_of_for : FoRParts → Column
column_of_for (Whole parts) = column_of_one_reference parts
column_of_for (ByChunk child references) = chunked_for references.slots 0 (column_of_primitive child)
column_of_for (Nulls child reference) = global_for (reference_integer reference) (column_of_constant child)
