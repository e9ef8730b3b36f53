-- What the foot of a file of chunks says to C, and how feet are made of what C says.
use Rattle.std.specs.Prelude.{⊤, ◌≡◌, ◌+◌, ◌%◌, ◌^◌, ◌≤◌, ◌==◌, ◌++◌, ℕ, ℤ, pos, Option, Some, None, List, Result, Ok, Err, drop, length, map, nat_lt, not, take, if◌then◌else◌}
use Rattle.fl_types.specs.declared.dtype.Nullability.{Nullability}
use Rattle.fl_types.specs.declared.dtype.PType.{PType}
use Rattle.fl_types.specs.declared.error.FastLanesError.TheVariants.{LengthOverflow, OutOfMemory, UnknownType}
use Rattle.fl_types.specs.declared.query.CompareOperator.{CompareOperator}
use Rattle.fl_file.specs.declared.error.FileError.{FileError}
use Rattle.fl_file.specs.declared.error.FileError.TheVariants as files
use Rattle.fl_file.specs.declared.foot.ChunkEntry.{ChunkEntry}
use Rattle.fl_file.specs.declared.pruning.Pruning.{Pruning}
use Rattle.fl_file.specs.declared.pruning.Pruning.TheVariants as prunings
use Rattle.fl_file.specs.declared.pruning.Test.{Test}
use Rattle.fl_file.specs.declared.pruning.Test.TheVariants.{Between, Compare}
use Rattle.fl_file.specs.declared.statistics.Extremes.{Extremes}
use Rattle.fl_file.specs.Crc32c.{crc32c_of}
use Rattle.fl_file.specs.FileLaws.{HasNoFootBehind}
use Rattle.fl_file.specs.FileReading.{foot_of_file, last_foot_of_file}
use Rattle.fl_file.specs.Files.{padded_foot}
use Rattle.fl_file.specs.Foot.{FootParts, foot_bytes}
use Rattle.fl_file.specs.FootReading.{lie_between, type_of_word}
use Rattle.fl_file.specs.Pruning.{IsPlanOf}
use Rattle.flcol_c.specs.declared.fault.Fault.{Fault}
use Rattle.flcol_c.specs.declared.fault.Fault.TheVariants as faults
use Rattle.flcol_c.specs.declared.records.ChunkRecord.{ChunkRecord}
use Rattle.flcol_c.specs.Answering.{operator_of, options_of}
use Rattle.flcol_c.specs.Records.{entries_said}
use Rattle.flcol_c.specs.Statuses.{Gives, IsStatusOf}

-- ---- faults
-- the fault of a file's error; of bytes in memory a read fails beyond their end alone, and a write for want of memory
abbrev pub of_file : FileError → Fault
of_file files.OutOfMemory = faults.Refused OutOfMemory
of_file files.TooShort = faults.FileTooShort
of_file files.BadMark = faults.BadMark
of_file files.BadLength = faults.BadFootLength
of_file files.BadChecksum = faults.BadFootChecksum
of_file files.BadField = faults.BadField
of_file files.BadPlace = faults.BadPlace
of_file files.BadChunk = faults.BadChunk
of_file files.TooLong = faults.FileTooLong
of_file files.ReadFault = faults.FileTooShort
of_file files.WriteFault = faults.Refused OutOfMemory

-- why a file is not read, if it is not
abbrev pub file_fault : {Y : Type 0} → Result Y FileError → Option Fault
file_fault (Ok found) = None
file_fault (Err error) = Some (of_file error)

-- where the foot of a file is not read, its fault is answered, unless memory ran out
abbrev pub GivesFootFault : {A : Type 0} → List ℕ → Result A Fault → Type 0
GivesFootFault bytes result = (fault : Fault) → file_fault (foot_of_file bytes) ≡ Some fault → Gives (Some fault) (λ _. ⊤) result

-- the status says it
abbrev pub IsFootStatus : List ℕ → ℤ → Type 0
IsFootStatus bytes status = (fault : Fault) → file_fault (foot_of_file bytes) ≡ Some fault → IsStatusOf (Some fault) status

-- why what a foot says of each chunk is not written to so much room, if it is not
abbrev pub chunks_fault : ℕ → Result FootParts FileError → Option Fault
chunks_fault room (Ok foot) = if room == length foot.chunks then None else Some faults.WrongLength
chunks_fault room (Err error) = Some (of_file error)

-- why a number is not written to a word, if it is not
abbrev pub word_fault : ℕ → Option Fault
word_fault n = if nat_lt n (2 ^ 64) then None else Some (faults.Refused LengthOverflow)

-- ---- chunks
-- the bytes of a file that a record says
abbrev pub bytes_said : List ℕ → ChunkRecord → List ℕ
bytes_said bytes r = take r.size (drop r.offset bytes)

-- why they are no chunk, if they are none: they don't lie in the file, or are not those that the checksum is of
abbrev pub chunk_fault : List ℕ → ChunkRecord → Option Fault
chunk_fault bytes r =
    if nat_lt (length bytes) (r.offset + r.size) then Some faults.BadPlace
    else if crc32c_of (bytes_said bytes r) == r.checksum then None
    else Some faults.BadChunk

-- the bytes of a chunk were given, or its fault answered
abbrev pub GivesBytesSaid : {X : Type 0} → (X → List ℕ) → List ℕ → ChunkRecord → Result X Fault → Type 0
GivesBytesSaid view bytes r (Ok x) = (chunk_fault bytes r ≡ None) × (view x ≡ bytes_said bytes r)
GivesBytesSaid view bytes r (Err fault) = chunk_fault bytes r ≡ Some fault

-- ---- the end of a file
-- the longest beginning of a file that has a foot and ends at a multiple of 64 has so many bytes
pub record IsLastEnd (bytes : List ℕ) (end : ℕ) : Type 0 where
  pub within : end ≤ length bytes
  pub aligned : end % 64 ≡ 0
  pub foot : foot_of_file (take end bytes) ≡ last_foot_of_file bytes
  pub last : HasNoFootBehind end bytes

-- ---- tests
-- the test how items compare with a constant, where there is an operator
abbrev pub compared : Option CompareOperator → ℤ → Result Test Fault
compared None constant = Err faults.BadOperator
compared (Some operator) constant = Ok (Compare operator constant)

-- the test that the number of an operator and a constant say
abbrev pub test_said : ℕ → ℤ → Result Test Fault
test_said operator constant = compared (operator_of operator) constant

-- the test whether items lie between two bounds, each left out where its number is not 0
abbrev pub test_between : ℤ × ℤ → ℕ × ℕ → Test
test_between bounds strict = Between bounds.0 bounds.1 (options_of strict.0 strict.1)

-- the number of what is said of a chunk
abbrev pub pruning_number : Pruning → ℕ
pruning_number prunings.Skip = 0
pruning_number prunings.Some = 1
pruning_number prunings.All = 2

-- numbers say what is known of a test of each chunk
abbrev pub IsPlanIn : Test → List ChunkEntry → List ℕ → Type 0
IsPlanIn test chunks numbers = (plan : List Pruning) × IsPlanOf test chunks plan × (numbers ≡ map pruning_number plan)

-- these are the least and the greatest integer and a 0, or where there are none two zeros and a 1
abbrev pub AreExtremesSaid : Option Extremes → ℤ → ℤ → ℕ → Type 0
AreExtremesSaid None least greatest none = (least ≡ pos 0) × (greatest ≡ pos 0) × (none ≡ 1)
AreExtremesSaid (Some e) least greatest none = (least ≡ e.least) × (greatest ≡ e.greatest) × (none ≡ 0)

-- ---- what is added to a file
-- why so many bytes are not added to a file of so many, where there is room for so many, if they are not
abbrev pub added_fault : ℕ → ℕ → ℕ → Option Fault
added_fault place room len =
    if not (nat_lt (place + len) (2 ^ 63)) then Some faults.FileTooLong
    else if nat_lt room len then Some faults.WrongLength
    else None

-- these bytes, so many, stand in place of the first ones, and those behind them are as before
abbrev pub IsPutOver : List ℕ → List ℕ → ℕ → List ℕ → Type 0
IsPutOver before after len bytes = (length bytes ≡ len) × (after ≡ bytes ++ drop len before)

-- the foot of this type whose chunks lie in the first so many bytes, if there is such a foot
abbrev pub foot_before_place : ℕ → PType × Nullability → Option (List ChunkEntry) → Result FootParts Fault
foot_before_place place t None = Err faults.BadField
foot_before_place place t (Some chunks) = if lie_between 4 place chunks then Ok (record { ptype = t.0; nullability = t.1; chunks = chunks }) else Err faults.BadPlace

-- the same of a type, if there is one, and of the chunks that records say
abbrev pub foot_of_type : Option (PType × Nullability) → List ChunkRecord → ℕ → Result FootParts Fault
foot_of_type None records place = Err (faults.Refused UnknownType)
foot_of_type (Some t) records place = foot_before_place place t (entries_said t.0 records)

-- the foot that the number of a type and records say of a file of so many bytes, or why there is none
abbrev pub foot_said : ℕ → List ChunkRecord → ℕ → Result FootParts Fault
foot_said dtype records place = foot_of_type (type_of_word dtype) records place

-- why a foot is not added to a file of so many bytes, where there is room for so many, if it is not
abbrev pub finish_fault : ℕ → ℕ → Result FootParts Fault → Option Fault
finish_fault place room (Ok foot) = added_fault place room (length (padded_foot place (foot_bytes foot)))
finish_fault place room (Err fault) = Some fault
