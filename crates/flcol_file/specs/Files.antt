-- Columns in files of chunks.
use Rattle.std.specs.Prelude.{◌≡◌, ◌≢◌, ◌⊎◌, ◌≤◌, ◌^◌, ⊤, ℕ, Bool, List, [], ◌∷◌, Option, Result, Ok, Err, length, map}
use Rattle.fl_types.specs.declared.dtype.DType.{DType}
use Rattle.fl_types.specs.declared.dtype.DType.TheVariants.{Primitive}
use Rattle.fl_types.specs.declared.error.FastLanesError.TheVariants.{OutOfMemory, TypeMismatch}
use Rattle.fl_column.specs.Columns.{Column}
use Rattle.fl_file.specs.FileLaws.{AreChunksOf}
use Rattle.fl_file.specs.Files.{FileSoFar, HasWritten, IsLeftBy, Part, padded, padding_len, with_chunk}
use Rattle.fl_file.specs.Foot.{FootParts}
use Rattle.fl_file.specs.FileReading.{IsReaderOf, chunk_of, foot_of_reader, place_of, source_can_fail}
use Rattle.fl_file.specs.Statistics.{statistics_of_column}
use Rattle.fl_file.specs.declared.error.FileError.{FileError}
use Rattle.fl_file.specs.declared.error.FileError.TheVariants as files
use Rattle.fl_file.specs.declared.foot.ChunkEntry.{ChunkEntry}
use Rattle.fl_file.specs.declared.reader.Reader.{Reader}
use Rattle.fl_file.specs.declared.writer.Writer.{Writer}
use Rattle.flcol_file.specs.declared.error.ColumnFileError.{ColumnFileError}
use Rattle.flcol_file.specs.declared.error.ColumnFileError.TheVariants.{Array, BadContainer, BadStatistics, File}
use Rattle.fl_array.specs.Trees.{Tree, column}
use Rattle.flcol_file.specs.Chunked.{ChunkFacts}
use Rattle.flcol_file.specs.Chunks.{IsChunkOf, LacksContainer, array_of}
use Rattle.flcol_file.specs.Outcomes.{IsFault, of_file}

-- ---- what is written
-- a writer has written a chunk of an array with this column, which is of the file's type, with its statistics, behind what it had
abbrev pub HasAppended : {S : Type 0} → (S → Option (List ℕ)) → Writer S → FileSoFar → Column → Type 0
HasAppended written w s c = (chunk : List ℕ) × IsChunkOf c chunk × HasWritten written w (with_chunk s (chunk, statistics_of_column c)) × (c.dtype ≡ Primitive s.ptype s.nullability)

-- why a column's chunk is not added to a file: memory ran out; or the column is of another type, an array of it has no container, the file would be too long, or a write failed, where it can
abbrev pub IsNotAppended : Type 0 → FileSoFar → Column → ColumnFileError → Type 0
IsNotAppended can_fail s c e =
    (e ≡ Array OutOfMemory)
    ⊎ ((e ≡ Array TypeMismatch) × (c.dtype ≢ Primitive s.ptype s.nullability))
    ⊎ ((e ≡ BadContainer) × ((t : Tree) × (column t ≡ c) × LacksContainer t))
    ⊎ ((e ≡ File files.TooLong) × ((chunk : List ℕ) × IsChunkOf c chunk × (2 ^ 63 ≤ length (with_chunk s (chunk, statistics_of_column c)).bytes)))
    ⊎ ((e ≡ File files.WriteFault) × can_fail)

-- what holds after a chunk of a column was refused: where a write failed, the writer writes no more, and its sink has a beginning of the chunk more; else it has written what it had
abbrev pub IsLeftAfter : {S : Type 0} → ColumnFileError → (S → Option (List ℕ)) → Writer S → FileSoFar → Column → Type 0
IsLeftAfter (File e) written w s c = (chunk : List ℕ) × IsChunkOf c chunk × IsLeftBy e written w s (padded (padding_len (length s.bytes)) chunk)
IsLeftAfter e written w s c = HasWritten written w s

-- ---- what is read
-- the array whose container the bytes of a chunk are, or why there is none
abbrev pub array_in : Result (List ℕ) FileError → Result Tree ColumnFileError
array_in (Ok chunk) = array_of chunk
array_in (Err error) = Err (of_file error)

-- the array of a chunk of a file, or why there is none
abbrev pub array_at : List ℕ → ChunkEntry → Result Tree ColumnFileError
array_at bytes e = array_in (chunk_of bytes e)

-- a chunk holds this column: it is that of the chunk's array, it is of the file's type, and the foot says its statistics
pub record HoldsColumn (bytes : List ℕ) (foot : FootParts) (e : ChunkEntry) (c : Column) : Type 0 where
  pub array : Tree
  pub stored : array_at bytes e ≡ Ok array
  pub is_column : column array ≡ c
  pub typed : c.dtype ≡ Primitive foot.ptype foot.nullability
  pub statistics : e.statistics ≡ statistics_of_column c

-- a column is not of the file's type, or else its statistics are not those that the foot says
abbrev pub IsMisfit : FootParts → ChunkEntry → Column → ColumnFileError → Type 0
IsMisfit foot e c error =
    ((error ≡ Array TypeMismatch) × (c.dtype ≢ Primitive foot.ptype foot.nullability))
    ⊎ ((error ≡ BadStatistics) × (c.dtype ≡ Primitive foot.ptype foot.nullability) × (e.statistics ≢ statistics_of_column c))

-- why a chunk holds no column: it has no array, or the array's column does not fit what the foot says
abbrev pub IsRefused : List ℕ → FootParts → ChunkEntry → ColumnFileError → Type 0
IsRefused bytes foot e error = (array_at bytes e ≡ Err error) ⊎ ((t : Tree) × (array_at bytes e ≡ Ok t) × IsMisfit foot e (column t) error)

-- chunks hold these columns, one by one
abbrev pub HoldEach : List ℕ → FootParts → List ChunkEntry → List Column → Type 0
HoldEach bytes foot [] [] = ⊤
HoldEach bytes foot [] (c ∷ columns) = ⊥
HoldEach bytes foot (e ∷ es) [] = ⊥
HoldEach bytes foot (e ∷ es) (c ∷ columns) = HoldsColumn bytes foot e c × HoldEach bytes foot es columns

-- the first chunks hold columns, and the next one holds none, for this reason
abbrev pub IsFirstRefusal : List ℕ → FootParts → List ChunkEntry → ColumnFileError → Type 0
IsFirstRefusal bytes foot [] error = ⊥
IsFirstRefusal bytes foot (e ∷ es) error = IsRefused bytes foot e error ⊎ (((c : Column) × HoldsColumn bytes foot e c) × IsFirstRefusal bytes foot es error)

-- each chunk holds a column, or this is why the first that holds none does not, unless memory ran out or a read failed, where it can
abbrev pub IsVerdict : {X : Type 0} → Bool → List ℕ → FootParts → Result X ColumnFileError → Type 0
IsVerdict fails bytes foot (Ok x) = (columns : List Column) × HoldEach bytes foot foot.chunks columns
IsVerdict fails bytes foot (Err e) = IsFault fails e ⊎ IsFirstRefusal bytes foot foot.chunks e

-- a reader reads a file whose chunks hold these columns
abbrev pub HoldsColumns : {R : Type 0} → (R → Option (List ℕ)) → Reader R → List Column → Type 0
HoldsColumns contents r columns = (bytes : List ℕ) × IsReaderOf contents r bytes × HoldEach bytes (foot_of_reader r) (foot_of_reader r).chunks columns

-- what a reader knows of the chunks before one is read
abbrev pub facts_of_reader : {R : Type 0} → (R → Bool) → Reader R → ChunkFacts
facts_of_reader can_fail r = let foot = foot_of_reader r in record {
  ptype = foot.ptype;
  nullability = foot.nullability;
  statistics = map (λ e. e.statistics) foot.chunks;
  places = map place_of foot.chunks;
  can_fail = source_can_fail can_fail r;
}

-- a column is not of this type, or else not of this length
abbrev pub IsMisfitting : DType → ℕ → Column → ColumnFileError → Type 0
IsMisfitting dtype len c error = ((error ≡ Array TypeMismatch) × (c.dtype ≢ dtype)) ⊎ ((error ≡ BadStatistics) × (c.dtype ≡ dtype) × (length c.items ≢ len))

-- reading a chunk gave its array, or why it holds no column, unless memory ran out or a read failed, where it can
abbrev pub GivesArray : Bool → List ℕ → FootParts → ChunkEntry → Result Tree ColumnFileError → Type 0
GivesArray fails bytes foot e (Ok t) = array_at bytes e ≡ Ok t
GivesArray fails bytes foot e (Err error) = IsFault fails error ⊎ IsRefused bytes foot e error

-- a chunk holds a column, or this is why not, unless memory ran out or a read failed, where it can
abbrev pub IsChunkVerdict : {X : Type 0} → Bool → List ℕ → FootParts → ChunkEntry → Result X ColumnFileError → Type 0
IsChunkVerdict fails bytes foot e (Ok x) = (c : Column) × HoldsColumn bytes foot e c
IsChunkVerdict fails bytes foot e (Err error) = IsFault fails error ⊎ IsRefused bytes foot e error

-- ---- laws
-- a chunk is of an array with this column, which is of the file's type, and its statistics are the column's
abbrev pub IsPartOf : FootParts → Part → Column → Type 0
IsPartOf foot part c = IsChunkOf c part.0 × (part.1 ≡ statistics_of_column c) × (c.dtype ≡ Primitive foot.ptype foot.nullability)

-- chunks are of these columns, one by one
abbrev pub ArePartsOf : FootParts → List Part → List Column → Type 0
ArePartsOf foot [] [] = ⊤
ArePartsOf foot [] (c ∷ columns) = ⊥
ArePartsOf foot (part ∷ parts) [] = ⊥
ArePartsOf foot (part ∷ parts) (c ∷ columns) = IsPartOf foot part c × ArePartsOf foot parts columns

-- a law: a file that is read as chunks of these columns holds them
abbrev pub FileIsHeld : Type 0
FileIsHeld = (bytes : List ℕ) (foot : FootParts) (parts : List Part) (columns : List Column) → AreChunksOf bytes foot.chunks parts → ArePartsOf foot parts columns → HoldEach bytes foot foot.chunks columns
