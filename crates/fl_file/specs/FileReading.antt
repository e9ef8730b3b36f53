-- Reading a file of chunks.
use Rattle.std.specs.Prelude.{◌≡◌, ◌*◌, ◌/◌, ◌==◌, ⊤, ℕ, zero, suc, Bool, false, List, length, take, drop, codes, bytes_eq, nat_lt, Option, None, Some, Result, Ok, Err, IsTrue, if◌then◌else◌}
use Rattle.fl_file.specs.declared.error.FileError.{FileError}
use Rattle.fl_file.specs.declared.error.FileError.TheVariants.{BadChunk, BadMark, OutOfMemory, ReadFault, TooShort}
use Rattle.fl_file.specs.declared.foot.ChunkEntry.{ChunkEntry}
use Rattle.fl_file.specs.declared.reader.Reader.{Reader}
use Rattle.fl_file.specs.Crc32c.{crc32c_of}
use Rattle.fl_file.specs.Ends.{Place}
use Rattle.fl_file.specs.Foot.{FootParts, foot_parts}
use Rattle.fl_file.specs.FootReading.{foot_of, lie_between, then_with}

-- a call over bytes is refused as reading them is, unless memory ran out or a read failed, where it can
abbrev pub RefusesFrom : {Y : Type 0} → Bool → FileError → Result Y FileError → Type 0
RefusesFrom fails OutOfMemory read = ⊤
RefusesFrom fails ReadFault read = fails ≡ false → read ≡ Err ReadFault
RefusesFrom fails e read = read ≡ Err e

-- a call over bytes gave what is read, seen by view, or why nothing is, unless memory ran out or a read failed, where it can
abbrev pub GivesFrom : {X Y : Type 0} → Bool → (X → Y) → Result X FileError → Result Y FileError → Type 0
GivesFrom fails view (Ok x) read = read ≡ Ok (view x)
GivesFrom fails view (Err e) read = RefusesFrom fails e read

-- there is an error
abbrev pub IsRefused : {Y : Type 0} → Result Y FileError → Type 0
IsRefused (Ok x) = ⊥
IsRefused (Err e) = ⊤

-- a search over bytes found what is read, seen by view, or nothing where it is refused, unless memory ran out or a read failed, where it can
abbrev pub IsFoundFrom : {X Y : Type 0} → Bool → (X → Y) → Result (Option X) FileError → Result Y FileError → Type 0
IsFoundFrom fails view (Ok (Some x)) read = read ≡ Ok (view x)
IsFoundFrom fails view (Ok None) read = IsRefused read
IsFoundFrom fails view (Err OutOfMemory) read = ⊤
IsFoundFrom fails view (Err ReadFault) read = fails ≡ false → read ≡ Err ReadFault
IsFoundFrom fails view (Err e) read = ⊥

-- a file of chunks has 28 bytes, and begins with the mark
abbrev pub begun : List ℕ → Result ℕ FileError
begun bytes =
    if nat_lt (length bytes) 28 then Err TooShort
    else if bytes_eq (take 4 bytes) (codes "FLC2") then Ok (length bytes) else Err BadMark

-- the foot at the end of the first bytes of a file
abbrev pub foot_before : List ℕ → ℕ → Result FootParts FileError
foot_before bytes end = foot_of (take end bytes) end

-- the foot of a file, or why there is none
abbrev pub foot_of_file : List ℕ → Result FootParts FileError
foot_of_file bytes = then_with (begun bytes) (foot_before bytes)

-- one answer, or where it is a refusal another
abbrev pub found_or : {Y : Type 0} → Result Y FileError → Result Y FileError → Result Y FileError
found_or (Ok x) other = Ok x
found_or (Err e) other = other

-- the foot of the longest beginning that has one and whose end is at most the k-th multiple of 64
abbrev pub last_foot : List ℕ → ℕ → Result FootParts FileError
last_foot bytes zero = Err BadMark
last_foot bytes (suc k) = found_or (foot_before bytes (64 * suc k)) (last_foot bytes k)

-- the last foot of a file that ends at a multiple of 64, or why there is none
abbrev pub last_foot_of_file : List ℕ → Result FootParts FileError
last_foot_of_file bytes = then_with (begun bytes) (λ n. last_foot bytes (n / 64))

-- the bytes of a chunk, or that they are not those that its checksum is of
abbrev pub chunk_of : List ℕ → ChunkEntry → Result (List ℕ) FileError
chunk_of bytes e = let chunk = take e.size (drop e.offset bytes) in if crc32c_of chunk == e.checksum then Ok chunk else Err BadChunk

-- a reader reads these bytes, which hold the chunks that its foot says
pub record IsReaderOf {R : Type 0} (contents : R → Option (List ℕ)) (r : Reader R) (bytes : List ℕ) : Type 0 where
  pub reads : contents r.source ≡ Some bytes
  pub places : IsTrue (lie_between 4 (length bytes) r.foot.chunks.items)

-- what a reader's foot says
abbrev pub foot_of_reader : {R : Type 0} → Reader R → FootParts
foot_of_reader r = foot_parts r.foot

-- reads of a reader's source can fail
abbrev pub source_can_fail : {R : Type 0} → (R → Bool) → Reader R → Bool
source_can_fail can_fail r = can_fail r.source

-- the reads of a reader's source so far, where they are logged
abbrev pub reads_of_source : {R : Type 0} → (R → Option (List Place)) → Reader R → Option (List Place)
reads_of_source reads r = reads r.source

-- where a chunk lies, and how many bytes it has
abbrev pub place_of : ChunkEntry → Place
place_of e = (e.offset, e.size)
