-- Reads of single items, one after the other.
use Rattle.std.specs.Prelude.{◌≡◌, ◌+◌, ◌*◌, ◌/◌, ℕ}
use Rattle.fl_column.specs.Columns.{numbers_of}
use Rattle.fl_codec.specs.RunColumns.{chunk_start}
use Rattle.fl_array.specs.RLEArrays.{RLEArrayParts}
use Rattle.fl_array.specs.Trees.{column}

-- the positions from start to below end are those of a chunk, whose run values start there
pub record IsChunkOf (a : RLEArrayParts) (start end values_start : ℕ) : Type 0 where
  pub whole : 1024 * (start / 1024) ≡ start
  pub long : end ≡ start + 1024
  pub values : values_start ≡ chunk_start (numbers_of (column a.offsets)) (start / 1024)
