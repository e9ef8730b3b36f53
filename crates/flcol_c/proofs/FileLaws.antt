-- Columns in files of chunks.
use Rattle.std.proofs.Common.{inl, inr, ◌≡◌, ◌≢◌, ℕ, ℤ, ◌+◌, List, length, pos, Option, None, Some, Result, Ok, Err, IfErr, IfOk, ap, sym, ◌∙◌, refl, subst, false, true}
use Rattle.std.specs.Prelude.{⊤, IsErrAnd, IsOkAnd}
use Rattle.fl_types.specs.declared.error.FastLanesError.{FastLanesError}
use Rattle.fl_types.specs.declared.error.FastLanesError.TheVariants.{OutOfMemory}
use Rattle.fl_column.specs.Columns.{Column}
use Rattle.fl_array.specs.Trees.{Tree, column}
use Rattle.fl_file.specs.declared.error.FileError.{FileError}
use Rattle.fl_file.specs.declared.reader.Reader.{Reader}
use Rattle.fl_file.specs.FileReading.{IsReaderOf, foot_of_file, foot_of_reader}
use Rattle.fl_file.specs.Foot.{FootParts}
use Rattle.flcol_file.specs.declared.error.ColumnFileError.{ColumnFileError}
use Rattle.fl_file.specs.declared.statistics.ChunkStatistics.{ChunkStatistics}
use Rattle.fl_file.specs.Crc32c.{crc32c_of}
use Rattle.fl_file.specs.Files.{padded, padding_len}
use Rattle.fl_file.specs.Statistics.{statistics_of_column}
use Rattle.flcol_file.specs.Chunks.{IsChunkOf}
use Rattle.flcol_file.specs.Chunked.{IsSumOf}
use Rattle.flcol_file.specs.Outcomes.{AnswersFrom}
use Rattle.flcol_file.specs.Files.{HoldEach, HoldsColumns, IsFirstRefusal, IsVerdict}
use Rattle.flcol_c.specs.declared.fault.Fault.{Fault}
use Rattle.flcol_c.specs.declared.fault.Fault.TheVariants as faults
use Rattle.flcol_c.specs.Containers.{GivesArray, Holds, IsArrayOf}
use Rattle.flcol_c.specs.declared.records.ChunkRecord.{ChunkRecord}
use Rattle.flcol_c.specs.Feet.{GivesFootFault, IsPutOver, added_fault, bytes_said, chunk_fault, file_fault, word_fault}
use Rattle.flcol_c.specs.Records.{fields_in, fields_of}
use Rattle.flcol_c.specs.Files.{FileHolds, IsAppended, GivesArraySaid, GivesSum, GivesVerdict, IsChunkStatus, of_column_file}
use Rattle.flcol_c.specs.Statuses.{Gives, fault_in, status_of}
use Rattle.flcol_c.proofs.ContainerLaws.{status_read}
use Rattle.flcol_c.proofs.StatusLaws.{Told, told_first}

-- ---- what is held
pub same_foot : (r : Result FootParts FileError) (a b : FootParts) → r ≡ Ok a → r ≡ Ok b → a ≡ b
same_foot r a b p q = cc

-- a reader of a file holds the columns that the file holds
pub held_by : {R : Type 0} (contents : R → Option (List ℕ)) (r : Reader R) (bytes : List ℕ) (columns : List Column) → foot_of_file bytes ≡ Ok (foot_of_reader r) → IsReaderOf contents r bytes → FileHolds bytes columns → HoldsColumns contents r columns
held_by contents r bytes columns foot reads (f, is, each) =
    (bytes, reads, subst (λ (p : FootParts). HoldEach bytes p p.chunks columns) (same_foot (foot_of_file bytes) f (foot_of_reader r) is foot) each)

no_fault : (fault : Fault) → ◌≡◌ {A = Option Fault} None (Some fault) → ⊥
no_fault fault e = cc

-- a file that holds columns has a foot
pub has_foot : (bytes : List ℕ) (columns : List Column) → FileHolds bytes columns → file_fault (foot_of_file bytes) ≡ None
has_foot bytes columns (f, is, each) = ap file_fault is

-- where the foot is not read
pub foot_given : {A : Type 0} (bytes : List ℕ) (r : Result A Fault) (f : Fault) → IsErrAnd r (λ (e : Fault). e ≡ f) → (f ≢ faults.Refused OutOfMemory → file_fault (foot_of_file bytes) ≡ Some f) → GivesFootFault bytes r
foot_given bytes (Ok x) f h g = absurd h
foot_given bytes (Err e) f h g = λ fault known other. let same : Some fault ≡ Some f = sym known ∙ g (subst (λ (d : Fault). d ≢ faults.Refused OutOfMemory) h other) in same ∙ ap (λ d. Some d) (sym h)

-- it is for want of memory, where columns are held
pub held_given : {A : Type 0} (bytes : List ℕ) (columns : List Column) (fault : Option Fault) (Is : A → Type 0) (r : Result A Fault) (f : Fault) → IsErrAnd r (λ (e : Fault). e ≡ f) → (f ≢ faults.Refused OutOfMemory → file_fault (foot_of_file bytes) ≡ Some f) → FileHolds bytes columns → Gives fault Is r
held_given bytes columns fault Is (Ok x) f h g held = absurd h
held_given bytes columns fault Is (Err e) f h g held = λ other. absurd (no_fault f (sym (has_foot bytes columns held) ∙ g (subst (λ (d : Fault). d ≢ faults.Refused OutOfMemory) h other)))

-- and where it is read, nothing is said of its fault
pub foot_read : {A : Type 0} (bytes : List ℕ) (foot : FootParts) (r : Result A Fault) → foot_of_file bytes ≡ Ok foot → GivesFootFault bytes r
foot_read bytes foot r is = λ fault known. absurd (no_fault fault (sym (ap file_fault is) ∙ known))

-- ---- chunks
pub said_refused : (bytes : List ℕ) (r : ChunkRecord) (res : Result Tree Fault) (f : Fault) → IsErrAnd res (λ (e : Fault). e ≡ f) → chunk_fault bytes r ≡ Some f → GivesArraySaid bytes r res
said_refused bytes r (Ok t) f h is = absurd h
said_refused bytes r (Err e) f h is = (λ fault known. ap (λ d. Some d) h ∙ sym is ∙ known, λ none. absurd (no_fault f (sym none ∙ is)))

pub said_given : (bytes chunk : List ℕ) (r : ChunkRecord) (res : Result Tree Fault) → chunk_fault bytes r ≡ None → chunk ≡ bytes_said bytes r → GivesArray chunk res → GivesArraySaid bytes r res
said_given bytes chunk r res none is given = (λ fault known. absurd (no_fault fault (sym none ∙ known)), λ _. subst (λ (b : List ℕ). GivesArray b res) is given)

pub status_said : (bytes : List ℕ) (r : ChunkRecord) (res : Result Tree Fault) (s : ℤ) → GivesArraySaid bytes r res → Told res s → IsChunkStatus bytes r s
status_said bytes r res s g told = (λ fault known. told_first res s fault told (g.0 fault known), λ none. status_read (bytes_said bytes r) res s (g.1 none) told)

said_none : (r : Option Fault) (t : Tree) → ((fault : Fault) → r ≡ Some fault → fault_in (Ok t) ≡ Some fault) → r ≡ None
said_none None t h = refl
said_none (Some f) t h = absurd (no_fault f (h f refl))

-- the array that is kept is that of the chunk
pub said_kept : (bytes : List ℕ) (r : ChunkRecord) (res : Result Tree Fault) (held : Option Tree) → GivesArraySaid bytes r res → IsOkAnd res (λ (t : Tree). held ≡ Some t) → Holds (IsArrayOf (bytes_said bytes r)) held
said_kept bytes r (Ok t) held g is = subst (λ (h : Option Tree). Holds (IsArrayOf (bytes_said bytes r)) h) (sym is) (g.1 (said_none (chunk_fault bytes r) t g.0))
said_kept bytes r (Err e) held g is = absurd is

-- ---- sums, counts and verdicts
-- where a foot is read, its fault is for want of memory
only_memory : (bytes : List ℕ) (foot : FootParts) (f : Fault) → (f ≢ faults.Refused OutOfMemory → file_fault (foot_of_file bytes) ≡ Some f) → foot_of_file bytes ≡ Ok foot → f ≢ faults.Refused OutOfMemory → ⊥
only_memory bytes foot f g is other = no_fault f (sym (ap file_fault is) ∙ g other)

pub sum_unread : (bytes : List ℕ) (columns : List Column) (res : Result ℤ Fault) (f : Fault) → IsErrAnd res (λ (e : Fault). e ≡ f) → (f ≢ faults.Refused OutOfMemory → file_fault (foot_of_file bytes) ≡ Some f) → FileHolds bytes columns → GivesSum columns res
sum_unread bytes columns (Ok x) f h g held = absurd h
sum_unread bytes columns (Err e) f h g (foot, is, each) = λ other. absurd (only_memory bytes foot f g is (subst (λ (d : Fault). d ≢ faults.Refused OutOfMemory) h other))

pub sum_refused : (columns : List Column) (e : FastLanesError) (res : Result ℤ Fault) → IsSumOf columns (Err e) → IsErrAnd res (λ (f : Fault). f ≡ faults.Refused e) → GivesSum columns res
sum_refused columns e (Ok x) of h = absurd h
sum_refused columns e (Err f) of h = λ _. (h ∙ ap faults.Refused of.0, of.1)

-- where columns are held a scan of bytes in memory is refused for want of memory alone
pub scan_refused : {A : Type 0} (fault : Option Fault) (Is : A → Type 0) (n : ℕ) (e : ColumnFileError) (res : Result A Fault) → AnswersFrom {X = ℕ} false (λ k. k) (Err e) (Ok n) → IsErrAnd res (λ (f : Fault). f ≡ of_column_file e) → Gives fault Is res
scan_refused fault Is n e (Ok x) h is = absurd is
scan_refused fault Is n e (Err f) h is = elim h [
  | inl (inl memory) ↦ λ other. absurd (other (is ∙ ap of_column_file memory))
  | inl (inr failed) ↦ absurd (let wrong : false ≡ true = failed.1 in cc)
  | inr other ↦ absurd (let wrong : Ok n ≡ Err e = other in cc)
]

counted : (n m : ℕ) → ◌≡◌ {A = Result ℕ ColumnFileError} (Ok n) (Ok m) → m ≡ n
counted n m h = cc

pub count_given : (n m : ℕ) (res : Result ℕ Fault) → ◌≡◌ {A = Result ℕ ColumnFileError} (Ok n) (Ok m) → Gives (word_fault m) (λ k. k ≡ m) res → Gives (word_fault n) (λ k. k ≡ n) res
count_given n m res h g = subst (λ (c : ℕ). Gives (word_fault c) (λ k. k ≡ c) res) (counted n m h) g

pub verdict_unread : (bytes : List ℕ) (foot : FootParts) (res : Result ⊤ Fault) (f : Fault) → IsErrAnd res (λ (e : Fault). e ≡ f) → (f ≢ faults.Refused OutOfMemory → file_fault (foot_of_file bytes) ≡ Some f) → foot_of_file bytes ≡ Ok foot → GivesVerdict bytes foot res
verdict_unread bytes foot (Ok x) f h g is = absurd h
verdict_unread bytes foot (Err e) f h g is = λ other. absurd (only_memory bytes foot f g is (subst (λ (d : Fault). d ≢ faults.Refused OutOfMemory) h other))

pub verdict_refused : (bytes : List ℕ) (read foot : FootParts) (e : ColumnFileError) (res : Result ⊤ Fault) → foot_of_file bytes ≡ Ok read → foot_of_file bytes ≡ Ok foot → IsVerdict {X = ⊤} false bytes read (Err e) → IsErrAnd res (λ (f : Fault). f ≡ of_column_file e) → GivesVerdict bytes foot res
verdict_refused bytes read foot e (Ok x) is known v h = absurd h
verdict_refused bytes read foot e (Err f) is known v h = elim v [
  | inl (inl memory) ↦ λ other. absurd (other (h ∙ ap of_column_file memory))
  | inl (inr failed) ↦ absurd (let wrong : false ≡ true = failed.1 in cc)
  | inr first ↦ λ other. (e, h, subst (λ (p : FootParts). IsFirstRefusal bytes p p.chunks e) (same_foot (foot_of_file bytes) read foot is known) first)
]

pub verdict_held : (bytes : List ℕ) (read foot : FootParts) → foot_of_file bytes ≡ Ok read → foot_of_file bytes ≡ Ok foot → ((columns : List Column) × HoldEach bytes read read.chunks columns) → (columns : List Column) × HoldEach bytes foot foot.chunks columns
verdict_held bytes read foot is known (columns, each) = (columns, subst (λ (p : FootParts). HoldEach bytes p p.chunks columns) (same_foot (foot_of_file bytes) read foot is known) each)

-- ---- what is appended
pub appended_by : (place : ℕ) (before after chunk bytes : List ℕ) (len gap checksum : ℕ) (s : ChunkStatistics) (r : ChunkRecord) (t : Tree) (plain : Column)
    → IsChunkOf (column t) chunk → bytes ≡ chunk → gap ≡ padding_len place → added_fault place (length before) (length (padded gap bytes)) ≡ None → IsPutOver before after len (padded gap bytes)
    → checksum ≡ crc32c_of bytes → s ≡ statistics_of_column plain → plain ≡ column t → fields_in r ≡ fields_of (record { offset = place + gap; size = length bytes; checksum = checksum; statistics = s }) → IsAppended place before after len r t
appended_by place before after chunk bytes len gap checksum s r t plain of is_chunk gap_is fits put sum_is s_is plain_is said =
    let same : padded gap bytes ≡ padded (padding_len place) chunk = rw (gap_is, is_chunk) refl in
    record {
      chunk = chunk;
      of_column = of;
      fits = ap (λ l. added_fault place (length before) (length l)) (sym same) ∙ fits;
      put = subst (λ (l : List ℕ). IsPutOver before after len l) same put;
      said = said ∙ rw (gap_is, sum_is, is_chunk, s_is, plain_is) refl;
    }
