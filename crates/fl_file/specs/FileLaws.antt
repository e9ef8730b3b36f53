-- What is written of chunks is read again.
use Rattle.std.specs.Prelude.{◌≡◌, ◌≢◌, ◌*◌, ◌%◌, ◌≤◌, ◌<◌, ◌^◌, ◌++◌, ⊤, ℕ, List, [], ◌∷◌, length, fold, Ok}
use Rattle.std.specs.List.{AllByRecursion}
use Rattle.fl_types.specs.declared.dtype.Nullability.{Nullability}
use Rattle.fl_types.specs.declared.dtype.PType.{PType}
use Rattle.fl_file.specs.declared.foot.ChunkEntry.{ChunkEntry}
use Rattle.fl_file.specs.FileReading.{chunk_of, foot_before, foot_of_file, last_foot_of_file}
use Rattle.fl_file.specs.Files.{FileSoFar, Part, file_bytes, finished, resumed, started, with_chunk}
use Rattle.fl_file.specs.Foot.{FootParts}
use Rattle.fl_file.specs.FootLaws.{StatisticsFit}

-- these chunks of a file are these parts: each entry says of its part what is known, and its bytes are read
abbrev pub AreChunksOf : List ℕ → List ChunkEntry → List Part → Type 0
AreChunksOf bytes [] [] = ⊤
AreChunksOf bytes [] (part ∷ parts) = ⊥
AreChunksOf bytes (e ∷ es) [] = ⊥
AreChunksOf bytes (e ∷ es) (part ∷ parts) = (e.statistics ≡ part.1) × (chunk_of bytes e ≡ Ok part.0) × AreChunksOf bytes es parts

-- a file is read as one of this type and of these parts
pub record IsReadAs (ptype : PType) (nullability : Nullability) (parts : List Part) (bytes : List ℕ) : Type 0 where
  pub chunks : List ChunkEntry
  pub foot : foot_of_file bytes ≡ Ok (record { ptype = ptype; nullability = nullability; chunks = chunks })
  pub parts_are : AreChunksOf bytes chunks parts

-- no statistic of these parts is out of its range
abbrev pub PartsFit : PType → List Part → Type 0
PartsFit ptype parts = AllByRecursion (λ part. StatisticsFit ptype part.1) parts

-- a law: the file of chunks is read as these chunks
abbrev pub FileIsRead : Type 0
FileIsRead = (ptype : PType) (nullability : Nullability) (parts : List Part) → PartsFit ptype parts → length (file_bytes ptype nullability parts) < 2 ^ 63 → IsReadAs ptype nullability parts (file_bytes ptype nullability parts)

-- a law: a file that was gone on with behind its foot, and behind bytes of no meaning, is read as the chunks that it had and those that came
abbrev pub ResumedIsRead : Type 0
ResumedIsRead =
    (ptype : PType) (nullability : Nullability) (parts more : List Part) (left : List ℕ) → PartsFit ptype parts → PartsFit ptype more
    → let longer = finished (fold with_chunk (resumed (fold with_chunk (started ptype nullability) parts) left) more) in length longer < 2 ^ 63 → IsReadAs ptype nullability (parts ++ more) longer

-- behind so many bytes no foot ends at a multiple of 64
abbrev pub HasNoFootBehind : ℕ → List ℕ → Type 0
HasNoFootBehind n bytes = (k : ℕ) (foot : FootParts) → n < 64 * k → 64 * k ≤ length bytes → foot_before bytes (64 * k) ≢ Ok foot

-- a law: the foot of a file is found behind which bytes stand that no foot is among
abbrev pub CutIsFound : Type 0
CutIsFound = (file left : List ℕ) (foot : FootParts) → foot_of_file file ≡ Ok foot → length file % 64 ≡ 0 → HasNoFootBehind (length file) (file ++ left) → last_foot_of_file (file ++ left) ≡ Ok foot

-- a law: a finished file ends at a multiple of 64
abbrev pub EndsAligned : Type 0
EndsAligned = (s : FileSoFar) → length (finished s) % 64 ≡ 0
