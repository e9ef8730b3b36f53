-- Delta arrays that are made of primitive ones.
use Rattle.std.specs.Prelude.{length}
use Rattle.fl_column.specs.Columns.{PrimitiveParts}
use Rattle.fl_codec.specs.Parts.{compress_deltas}
use Rattle.fl_array.specs.DeltaArrays.{DeltaArrayParts}
use Rattle.fl_array.specs.Trees.{Primitive}

-- the delta array of a primitive one
abbrev pub encoded_delta_array : PrimitiveParts → DeltaArrayParts
encoded_delta_array p = record {
  bases = Primitive (compress_deltas p).0;
  deltas = Primitive (compress_deltas p).1;
  parts = record { validity = p.validity; offset = 0; len = length p.slots };
}
