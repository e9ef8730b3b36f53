-- Files of chunks: their bytes, and what a writer has written of one.
use Rattle.std.specs.Prelude.{◌≡◌, ◌+◌, ◌-◌, ◌%◌, ◌++◌, ℕ, Bool, true, false, List, [], ◌∷◌, length, take, codes, fold, replicate, Option, IfSome}
use Rattle.fl_types.specs.declared.dtype.Nullability.{Nullability}
use Rattle.fl_types.specs.declared.dtype.PType.{PType}
use Rattle.fl_file.specs.declared.error.FileError.{FileError}
use Rattle.fl_file.specs.declared.error.FileError.TheVariants as errors
use Rattle.fl_file.specs.declared.foot.ChunkEntry.{ChunkEntry}
use Rattle.fl_file.specs.declared.statistics.ChunkStatistics.{ChunkStatistics}
use Rattle.fl_file.specs.declared.writer.Writer.{Writer}
use Rattle.fl_file.specs.Crc32c.{crc32c_of}
use Rattle.fl_file.specs.Foot.{FootParts, foot_bytes}

-- how many bytes this many are short of a multiple of 64
abbrev pub padding_len : ℕ → ℕ
padding_len n = (64 - n % 64) % 64

-- bytes behind so many zeros
abbrev pub padded : ℕ → List ℕ → List ℕ
padded n bytes = replicate n 0 ++ bytes

-- the bytes of a chunk, and what is known of its items
abbrev pub Part : Type 0
Part = List ℕ × ChunkStatistics

-- a file whose foot is not written: its type, its bytes, and the chunks among them
pub record FileSoFar : Type 0 where
  pub ptype : PType
  pub nullability : Nullability
  pub bytes : List ℕ
  pub chunks : List ChunkEntry

-- what the foot says of a chunk that begins here
abbrev pub entry_of_part : ℕ → Part → ChunkEntry
entry_of_part offset part = record { offset = offset; size = length part.0; checksum = crc32c_of part.0; statistics = part.1 }

-- a file without a chunk
abbrev pub started : PType → Nullability → FileSoFar
started ptype nullability = record { ptype = ptype; nullability = nullability; bytes = codes "FLC2"; chunks = [] }

-- a file with a further chunk, at the next multiple of 64
abbrev pub with_chunk : FileSoFar → Part → FileSoFar
with_chunk s part =
    let gap = padding_len (length s.bytes) in
    record { ptype = s.ptype; nullability = s.nullability; bytes = s.bytes ++ padded gap part.0; chunks = s.chunks ++ entry_of_part (length s.bytes + gap) part ∷ [] }

-- what the foot of a file says
abbrev pub foot_so_far : FileSoFar → FootParts
foot_so_far s = record { ptype = s.ptype; nullability = s.nullability; chunks = s.chunks }

-- the foot behind zeros, so that a file with so many bytes ends at a multiple of 64
abbrev pub padded_foot : ℕ → List ℕ → List ℕ
padded_foot place foot = padded (padding_len (place + length foot)) foot

-- a file with its foot
abbrev pub finished : FileSoFar → List ℕ
finished s = s.bytes ++ padded_foot (length s.bytes) (foot_bytes (foot_so_far s))

-- the file of these chunks
abbrev pub file_bytes : PType → Nullability → List Part → List ℕ
file_bytes ptype nullability parts = finished (fold with_chunk (started ptype nullability) parts)

-- ---- writers
-- a writer can go on, and has written this, where its sink's bytes are known
pub record HasWritten {S : Type 0} (written : S → Option (List ℕ)) (w : Writer S) (s : FileSoFar) : Type 0 where
  pub ptype : w.ptype ≡ s.ptype
  pub nullability : w.nullability ≡ s.nullability
  pub bytes : IfSome (written w.sink) (λ bytes. bytes ≡ s.bytes)
  pub place : w.place ≡ length s.bytes
  pub chunks : w.chunks.items ≡ s.chunks
  pub can_go_on : w.is_broken ≡ false

-- what holds after a call that failed: where a write failed the writer writes no more, and its sink has a beginning of these bytes more; else it has written what it had
abbrev pub IsLeftBy : {S : Type 0} → FileError → (S → Option (List ℕ)) → Writer S → FileSoFar → List ℕ → Type 0
IsLeftBy errors.WriteFault written w s more = (w.is_broken ≡ true) × ((k : ℕ) × IfSome (written w.sink) (λ bytes. bytes ≡ s.bytes ++ take k more))
IsLeftBy other written w s more = HasWritten written w s

-- the type of the items of a writer's file
abbrev pub type_of_writer : {S : Type 0} → Writer S → PType
type_of_writer w = w.ptype

-- a write has failed, and the writer writes no more
abbrev pub HasFailed : {S : Type 0} → Writer S → Type 0
HasFailed w = w.is_broken ≡ true

-- calls of a writer's sink may answer faults
abbrev pub SinkCanFail : {S : Type 0} → (S → Bool) → Writer S → Type 0
SinkCanFail can_fail w = can_fail w.sink ≡ true

-- a file of these bytes, among which the chunks of a foot lie, as one that goes on
abbrev pub continued : FootParts → List ℕ → FileSoFar
continued foot bytes = record { ptype = foot.ptype; nullability = foot.nullability; bytes = bytes; chunks = foot.chunks }

-- a finished file, and bytes behind it that have no meaning, as one that goes on
abbrev pub resumed : FileSoFar → List ℕ → FileSoFar
resumed s left = continued (foot_so_far s) (finished s ++ left)
