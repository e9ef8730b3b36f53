-- Columns in files of chunks, for C.
use Rattle.std.specs.Prelude.{◌≡◌, ◌≢◌, ◌⊎◌, ◌+◌, ℕ, ℤ, pos, true, false, Option, Some, None, List, Result, Ok, Err, length}
use Rattle.fl_types.specs.declared.error.FastLanesError.TheVariants.{LengthOverflow, NotInteger, OutOfMemory}
use Rattle.fl_types.specs.Types.{is_integer}
use Rattle.fl_column.specs.Columns.{Column}
use Rattle.fl_array.specs.Trees.{Tree, column}
use Rattle.fl_file.specs.FileReading.{foot_of_file}
use Rattle.fl_file.specs.Files.{entry_of_part, padded, padding_len}
use Rattle.fl_file.specs.Foot.{FootParts}
use Rattle.fl_file.specs.Statistics.{statistics_of_column}
use Rattle.flcol_file.specs.declared.error.ColumnFileError.{ColumnFileError}
use Rattle.flcol_file.specs.declared.error.ColumnFileError.TheVariants as columns
use Rattle.flcol_file.specs.Chunked.{IsSumOf, SumFits}
use Rattle.flcol_file.specs.Chunks.{IsChunkOf, LacksContainer}
use Rattle.flcol_file.specs.Files.{HoldEach, IsFirstRefusal}
use Rattle.flcol_c.specs.declared.fault.Fault.{Fault}
use Rattle.flcol_c.specs.declared.fault.Fault.TheVariants as faults
use Rattle.flcol_c.specs.declared.records.ChunkRecord.{ChunkRecord}
use Rattle.flcol_c.specs.Containers.{GivesArray, IsReadStatus}
use Rattle.flcol_c.specs.Feet.{IsPutOver, added_fault, bytes_said, chunk_fault, of_file}
use Rattle.flcol_c.specs.Records.{fields_in, fields_of}
use Rattle.flcol_c.specs.Statuses.{fault_in, status_of}

-- the fault of an error of a column in a file
abbrev pub of_column_file : ColumnFileError → Fault
of_column_file (columns.Array refusal) = faults.Refused refusal
of_column_file columns.BadContainer = faults.BadContainer
of_column_file columns.BadStatistics = faults.BadStatistics
of_column_file (columns.File error) = of_file error

-- ---- reading
-- the array of the chunk that a record says was given, or a fault answered: the chunk's, also where memory ran out, or its container's
abbrev pub GivesArraySaid : List ℕ → ChunkRecord → Result Tree Fault → Type 0
GivesArraySaid bytes r result = ((fault : Fault) → chunk_fault bytes r ≡ Some fault → fault_in result ≡ Some fault) × (chunk_fault bytes r ≡ None → GivesArray (bytes_said bytes r) result)

-- the status says it
abbrev pub IsChunkStatus : List ℕ → ChunkRecord → ℤ → Type 0
IsChunkStatus bytes r status = ((fault : Fault) → chunk_fault bytes r ≡ Some fault → status ≡ status_of fault) × (chunk_fault bytes r ≡ None → IsReadStatus (bytes_said bytes r) status)

-- the chunks of a file hold these columns: its foot says their type, and the statistics of each
abbrev pub FileHolds : List ℕ → List Column → Type 0
FileHolds bytes columns = (foot : FootParts) × (foot_of_file bytes ≡ Ok foot) × HoldEach bytes foot foot.chunks columns

-- the sum of the valid items was given, or that of the first chunks has more than 128 bits, unless memory ran out
abbrev pub GivesSum : List Column → Result ℤ Fault → Type 0
GivesSum columns (Ok sum) = IsSumOf columns (Ok sum)
GivesSum columns (Err fault) = fault ≢ faults.Refused OutOfMemory → (fault ≡ faults.Refused LengthOverflow) × ((k : ℕ) × (SumFits columns k → ⊥))

-- the status says it
abbrev pub IsSumStatus : List Column → ℤ → Type 0
IsSumStatus columns status = status ≢ pos 0 → status ≢ pos 1 → (status ≡ status_of (faults.Refused LengthOverflow)) × ((k : ℕ) × (SumFits columns k → ⊥))

-- the chunks of a foot hold columns, or the first that holds none was refused, unless memory ran out
abbrev pub GivesVerdict : {X : Type 0} → List ℕ → FootParts → Result X Fault → Type 0
GivesVerdict bytes foot (Ok x) = (columns : List Column) × HoldEach bytes foot foot.chunks columns
GivesVerdict bytes foot (Err fault) = fault ≢ faults.Refused OutOfMemory → (e : ColumnFileError) × (fault ≡ of_column_file e) × IsFirstRefusal bytes foot foot.chunks e

-- the status says it
abbrev pub IsVerdictStatus : List ℕ → ℤ → Type 0
IsVerdictStatus bytes status = (foot : FootParts) → foot_of_file bytes ≡ Ok foot → status ≢ pos 0 → status ≢ pos 1 → (e : ColumnFileError) × (status ≡ status_of (of_column_file e)) × IsFirstRefusal bytes foot foot.chunks e

-- ---- writing
-- the bytes of a chunk behind a file of so many
abbrev pub chunk_at : ℕ → List ℕ → List ℕ
chunk_at place chunk = padded (padding_len place) chunk

-- why an array is not added to a file of so many bytes, where there is room for so many
abbrev pub IsAppendFault : ℕ → ℕ → Tree → Fault → Type 0
IsAppendFault place room t fault =
    ((is_integer (column t).dtype ≡ false) × (fault ≡ faults.Refused NotInteger))
    ⊎ (((is_integer (column t).dtype ≡ true) × (fault ≡ faults.BadContainer) × LacksContainer t)
    ⊎ ((chunk : List ℕ) × (is_integer (column t).dtype ≡ true) × IsChunkOf (column t) chunk × (added_fault place room (length (chunk_at place chunk)) ≡ Some fault)))

-- the status says it, or that no array is held, unless memory ran out
abbrev pub IsAppendStatus : ℕ → ℕ → Option Tree → ℤ → Type 0
IsAppendStatus place room None status = status ≡ status_of faults.NoArray
IsAppendStatus place room (Some t) status = status ≢ pos 0 → status ≢ pos 1 → (fault : Fault) × (status ≡ status_of fault) × IsAppendFault place room t fault

-- a chunk of an array's column was added to a file of so many bytes, and a record says of it what is known of that
pub record IsAppended (place : ℕ) (before after : List ℕ) (len : ℕ) (r : ChunkRecord) (t : Tree) : Type 0 where
  pub chunk : List ℕ
  pub of_column : IsChunkOf (column t) chunk
  pub fits : added_fault place (length before) (length (chunk_at place chunk)) ≡ None
  pub put : IsPutOver before after len (chunk_at place chunk)
  pub said : fields_in r ≡ fields_of (entry_of_part (place + padding_len place) (chunk, statistics_of_column (column t)))
