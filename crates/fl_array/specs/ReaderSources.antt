-- What a reader reads of: an array of any kind but run-length encoding, or the runs of one that is.
use Rattle.std.specs.Prelude.{◌≡◌, ◌+◌, ◌<◌, ◌≤◌, ℕ, ℤ, pos, List, length, slice_index_or}
use Rattle.fl_column.specs.Columns.{column_of_primitive, integers_in, numbers_of}
use Rattle.fl_codec.specs.RunColumns.{chunk_start, run_count}
use Rattle.fl_array.specs.NoNulls.{HasNoNulls}
use Rattle.fl_array.specs.PrimitiveCows.{primitive_of_cow}
use Rattle.fl_array.specs.Readers.{Prepared}
use Rattle.fl_array.specs.RLEArrays.{RLEArrayParts, tree_of_rle}
use Rattle.fl_array.specs.Trees.{column}
use Rattle.fl_array.specs.declared.reader.Source.{Source}
use Rattle.fl_array.specs.declared.reader.Source.TheVariants.{Direct, RLE}
use Rattle.fl_array.specs.declared.reader.runs.RunReader.{RunReader}

-- the run values and the run offsets are those of the array, its run indices are what is read, and none is null where none may be
pub record AreRunParts (r : RunReader) : Type 0 where
  pub own_values : column_of_primitive (primitive_of_cow r.values) ≡ column r.array.now.values
  pub own_offsets : column_of_primitive (primitive_of_cow r.offsets) ≡ column r.array.now.offsets
  pub own_indices : r.indices.column ≡ column r.array.now.indices
  pub index_type : r.index_type ≡ r.indices.column.dtype
  pub no_nulls : HasNoNulls r.indices.column

-- these are the run values of chunk k of the array, from 1 to 1024
pub record AreRunValues (a : RLEArrayParts) (k : ℕ) (values : List ℤ) : Type 0 where
  pub some : 0 < length values
  pub few : length values ≤ 1024
  pub count : length values ≡ run_count (numbers_of (column a.offsets)) (length (column a.values).items) k
  pub each : (i : ℕ) → i < length values → slice_index_or values i (pos 0) ≡ slice_index_or (integers_in (column a.values)) (chunk_start (numbers_of (column a.offsets)) k + i) (pos 0)

-- what the reader reads
abbrev pub prepared_source : Source → Prepared
prepared_source (Direct reader) = reader
prepared_source (RLE runs) = record { column = column (tree_of_rle runs.array.now); offset = runs.array.now.window.offset; depth = runs.indices.depth + 1 }

-- what the reader holds beside an array is made of it
abbrev pub IsSource : Source → Type 0
IsSource (Direct reader) = Unit {0}
IsSource (RLE runs) = AreRunParts runs
