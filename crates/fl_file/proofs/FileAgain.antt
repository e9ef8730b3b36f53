-- What is written of chunks is read again.
use Rattle.std.proofs.Common.{◌≡◌, ℕ, suc, ◌+◌, ◌-◌, ◌%◌, ◌^◌, ◌≤◌, ◌<◌, ◌&&◌, eqb, nat_le, List, [], ◌∷◌, ◌++◌, length, take, drop, codes, replicate, fold, Ok, Err, refl, sym, ap, ◌∙◌, append_assoc, append-nil, length-append, arith, subst, cond}
use Rattle.std.specs.Prelude.{IsTrue}
use Rattle.std.specs.List.{AllByRecursion}
use Rattle.std.proofs.lemmas.Bool.{and_from, and_parts, cond-true, eq-eqb, le-leb, le-ltb, leb-true}
use Rattle.std.proofs.lemmas.List.{drop-append-le, length-drop, length-replicate, take-append-le, take_all}
use Rattle.fl_types.specs.declared.dtype.Nullability.{Nullability}
use Rattle.fl_types.specs.declared.dtype.PType.{PType}
use Rattle.fl_file.specs.declared.error.FileError.TheVariants.{BadChunk}
use Rattle.fl_file.specs.declared.foot.ChunkEntry.{ChunkEntry}
use Rattle.fl_file.specs.Crc32c.{crc32c_of}
use Rattle.fl_file.specs.FileLaws.{AreChunksOf, IsReadAs, PartsFit}
use Rattle.fl_file.specs.FileReading.{begun, chunk_of, foot_before}
use Rattle.fl_file.specs.Files.{FileSoFar, Part, entry_of_part, file_bytes, finished, foot_so_far, padded_foot, padding_len, resumed, started, with_chunk}
use Rattle.fl_file.specs.Foot.{foot_bytes}
use Rattle.fl_file.specs.FootLaws.{EntryFits, IsFootOf, StatisticsFit}
use Rattle.fl_file.specs.FootReading.{foot_of, lie_between, then_with}
use Rattle.fl_file.proofs.FootAgain.{foot_again, length_foot}
use Rattle.fl_file.proofs.ReaderLaws.{lie_before}

-- a file so far has these parts in it
pub record IsFileOf (s : FileSoFar) (parts : List Part) : Type 0 where
  pub mark : take 4 s.bytes ≡ codes "FLC2"
  pub long : 4 ≤ length s.bytes
  pub entries : AllByRecursion (EntryFits s.ptype) s.chunks
  pub places : IsTrue (lie_between 4 (length s.bytes) s.chunks)
  pub parts_are : AreChunksOf s.bytes s.chunks parts

-- ---- more bytes behind
-- what stands within bytes stands there with more of them behind
same_part : (bytes more : List ℕ) (offset size : ℕ) → offset + size ≤ length bytes → take size (drop offset (bytes ++ more)) ≡ take size (drop offset bytes)
same_part bytes more offset size within =
    let left = length-drop offset bytes in
    ap (take size) (drop-append-le offset bytes more (omega arith)) ∙ take-append-le size (drop offset bytes) more (omega arith)

same_chunk : (bytes more : List ℕ) (e : ChunkEntry) → e.offset + e.size ≤ length bytes → chunk_of (bytes ++ more) e ≡ chunk_of bytes e
same_chunk bytes more e within = ap (λ c. cond (eqb (crc32c_of c) e.checksum) (Ok c) (Err BadChunk)) (same_part bytes more e.offset e.size within)

ends : (start end : ℕ) (es : List ChunkEntry) → IsTrue (lie_between start end es) → start ≤ end
ends start end [] h = leb-true start end h
ends start end (e ∷ es) h =
    let both = and_parts (eqb (e.offset % 64) 0 && nat_le start e.offset) (lie_between (e.offset + e.size) end es) h in
    let begins : start ≤ e.offset = leb-true start e.offset (and_parts (eqb (e.offset % 64) 0) (nat_le start e.offset) both.0).1 in
    let rest = ends (e.offset + e.size) end es both.1 in
    omega arith

chunks_stay : (bytes more : List ℕ) (start : ℕ) (es : List ChunkEntry) (parts : List Part) → IsTrue (lie_between start (length bytes) es) → AreChunksOf bytes es parts → AreChunksOf (bytes ++ more) es parts
chunks_stay bytes more start [] [] h are = tt
chunks_stay bytes more start [] (part ∷ parts) h are = absurd are
chunks_stay bytes more start (e ∷ es) [] h are = absurd are
chunks_stay bytes more start (e ∷ es) (part ∷ parts) h are =
    let both = and_parts (eqb (e.offset % 64) 0 && nat_le start e.offset) (lie_between (e.offset + e.size) (length bytes) es) h in
    (are.0, same_chunk bytes more e (ends (e.offset + e.size) (length bytes) es both.1) ∙ are.1, chunks_stay bytes more (e.offset + e.size) es parts both.1 are.2)

-- ---- one chunk more
all_and_one : {X : Type 0} (P : X → Type 0) (xs : List X) (x : X) → AllByRecursion P xs → P x → AllByRecursion P (xs ++ x ∷ [])
all_and_one P [] x all one = (one, tt)
all_and_one P (y ∷ ys) x all one = (all.0, all_and_one P ys x all.1 one)

places_and_one : (start end more : ℕ) (es : List ChunkEntry) (e : ChunkEntry) → IsTrue (lie_between start end es) → e.offset % 64 ≡ 0 → end ≤ e.offset → e.offset + e.size ≤ more → IsTrue (lie_between start more (es ++ e ∷ []))
places_and_one start end more [] e h even begins fits =
    let l : start ≤ end = leb-true start end h in
    and_from (eqb (e.offset % 64) 0 && nat_le start e.offset) (nat_le (e.offset + e.size) more) (and_from (eqb (e.offset % 64) 0) (nat_le start e.offset) (eq-eqb (e.offset % 64) 0 even) (le-leb start e.offset (omega arith))) (le-leb (e.offset + e.size) more fits)
places_and_one start end more (x ∷ es) e h even begins fits =
    let both = and_parts (eqb (x.offset % 64) 0 && nat_le start x.offset) (lie_between (x.offset + x.size) end es) h in
    and_from (eqb (x.offset % 64) 0 && nat_le start x.offset) (lie_between (x.offset + x.size) more (es ++ e ∷ [])) both.0 (places_and_one (x.offset + x.size) end more es e both.1 even begins fits)

chunks_and_one : (bytes : List ℕ) (es : List ChunkEntry) (parts : List Part) (e : ChunkEntry) (part : Part) → AreChunksOf bytes es parts → e.statistics ≡ part.1 → chunk_of bytes e ≡ Ok part.0 → AreChunksOf bytes (es ++ e ∷ []) (parts ++ part ∷ [])
chunks_and_one bytes [] [] e part are same read = (same, read, tt)
chunks_and_one bytes [] (p ∷ parts) e part are same read = absurd are
chunks_and_one bytes (x ∷ es) [] e part are same read = absurd are
chunks_and_one bytes (x ∷ es) (p ∷ parts) e part are same read = (are.0, are.1, chunks_and_one bytes es parts e part are.2 same read)

zeros_len : (n : ℕ) → length (replicate {A = ℕ} n 0) ≡ n
zeros_len n = length-replicate n 0

-- the bytes behind others and zeros are found there
found_behind : (front zeros chunk : List ℕ) (offset : ℕ) → offset ≡ length front + length zeros → take (length chunk) (drop offset (front ++ (zeros ++ chunk))) ≡ chunk
found_behind [] [] chunk offset is = rw is (take_all (length chunk) chunk (omega arith))
found_behind [] (z ∷ zeros) chunk offset is = let at : offset ≡ suc (length zeros) = omega arith in rw at (found_behind [] zeros chunk (length zeros) (omega arith))
found_behind (x ∷ front) zeros chunk offset is = let at : offset ≡ suc (length front + length zeros) = omega arith in rw at (found_behind front zeros chunk (length front + length zeros) refl)

aligned : (n : ℕ) → (n + padding_len n) % 64 ≡ 0
aligned n = omega arith

crc_small : (bytes : List ℕ) → crc32c_of bytes < 2 ^ 32
crc_small bytes = omega arith

entry_fits : (t : PType) (offset : ℕ) (part : Part) → StatisticsFit t part.1 → offset + length part.0 < 2 ^ 63 → EntryFits t (entry_of_part offset part)
entry_fits t offset part fit small = record { offset = omega arith; size = omega arith; checksum = crc_small part.0; statistics = fit }

part_is_read : (bytes : List ℕ) (offset : ℕ) (part : Part) → take (length part.0) (drop offset bytes) ≡ part.0 → chunk_of bytes (entry_of_part offset part) ≡ Ok part.0
part_is_read bytes offset part is = rw is (cond-true (eqb (crc32c_of part.0) (crc32c_of part.0)) (Ok part.0) (Err _) (eq-eqb (crc32c_of part.0) (crc32c_of part.0) refl))

length_with : (s : FileSoFar) (part : Part) → length (with_chunk s part).bytes ≡ length s.bytes + padding_len (length s.bytes) + length part.0
length_with s part =
    let gap = padding_len (length s.bytes) in
    let zeros : length (replicate {A = ℕ} gap 0) ≡ gap = zeros_len gap in
    let tail : length (replicate gap 0 ++ part.0) ≡ length (replicate {A = ℕ} gap 0) + length part.0 = length-append (replicate gap 0) part.0 in
    length-append s.bytes (replicate gap 0 ++ part.0) ∙ omega arith

pub one_more : (s : FileSoFar) (parts : List Part) (part : Part) → IsFileOf s parts → StatisticsFit s.ptype part.1 → length (with_chunk s part).bytes < 2 ^ 63 → IsFileOf (with_chunk s part) (parts ++ part ∷ [])
one_more s parts part is fit small =
    let n = length s.bytes in
    let gap = padding_len n in
    let zeros = replicate gap 0 in
    let more = zeros ++ part.0 in
    let zeros_are : length (replicate {A = ℕ} gap 0) ≡ gap = zeros_len gap in
    let tail : length more ≡ length zeros + length part.0 = length-append zeros part.0 in
    let all : length (s.bytes ++ more) ≡ n + length more = length-append s.bytes more in
    let e = entry_of_part (n + gap) part in
    let within : n + gap + length part.0 ≤ length (s.bytes ++ more) = omega arith in
    let offset : n + gap ≡ n + length zeros = omega arith in
    record {
      mark = take-append-le 4 s.bytes more is.long ∙ is.mark;
      long = (let size = length_with s part in omega (arith, is.long));
      entries = all_and_one (EntryFits s.ptype) s.chunks e is.entries (entry_fits s.ptype (n + gap) part fit (let size = length_with s part in omega arith));
      places = places_and_one 4 n (length (s.bytes ++ more)) s.chunks e is.places (aligned n) (omega arith) within;
      parts_are = chunks_and_one (s.bytes ++ more) s.chunks parts e part (chunks_stay s.bytes more 4 s.chunks parts is.places is.parts_are) refl (part_is_read (s.bytes ++ more) (n + gap) part (found_behind s.bytes zeros part.0 (n + gap) offset));
    }

longer : (s : FileSoFar) (parts : List Part) → length s.bytes ≤ length (fold with_chunk s parts).bytes
longer s [] = omega arith
longer s (part ∷ parts) =
    let rest = longer (with_chunk s part) parts in
    let size = length_with s part in
    omega arith

same_type : (s : FileSoFar) (parts : List Part) → (fold with_chunk s parts).ptype ≡ s.ptype
same_type s [] = refl
same_type s (part ∷ parts) = same_type (with_chunk s part) parts

same_nullability : (s : FileSoFar) (parts : List Part) → (fold with_chunk s parts).nullability ≡ s.nullability
same_nullability s [] = refl
same_nullability s (part ∷ parts) = same_nullability (with_chunk s part) parts

pub all_more : (s : FileSoFar) (parts more : List Part) → IsFileOf s parts → PartsFit s.ptype more → length (fold with_chunk s more).bytes < 2 ^ 63 → IsFileOf (fold with_chunk s more) (parts ++ more)
all_more s parts [] is fit small = subst (λ ps. IsFileOf s ps) (sym (append-nil parts)) is
all_more s parts (part ∷ more) is fit small =
    let first : length (with_chunk s part).bytes < 2 ^ 63 = (let l = longer (with_chunk s part) more in omega arith) in
    subst (λ ps. IsFileOf (fold with_chunk (with_chunk s part) more) ps) (append_assoc parts (part ∷ []) more) (all_more (with_chunk s part) (parts ++ part ∷ []) more (one_more s parts part is fit.0 first) fit.1 small)

-- ---- a finished file
length_finished : (s : FileSoFar) → length (finished s) ≡ length s.bytes + (padding_len (length s.bytes + length (foot_bytes (foot_so_far s))) + length (foot_bytes (foot_so_far s)))
length_finished s =
    let foot = foot_bytes (foot_so_far s) in
    let gap = padding_len (length s.bytes + length foot) in
    let zeros : length (replicate {A = ℕ} gap 0) ≡ gap = zeros_len gap in
    let tail : length (replicate gap 0 ++ foot) ≡ length (replicate {A = ℕ} gap 0) + length foot = length-append (replicate gap 0) foot in
    length-append s.bytes (replicate gap 0 ++ foot) ∙ omega arith

pub finished_is_read : (s : FileSoFar) (parts : List Part) → IsFileOf s parts → length (finished s) < 2 ^ 63 → IsReadAs s.ptype s.nullability parts (finished s)
finished_is_read s parts is small =
    let foot = foot_so_far s in
    let F = foot_bytes foot in
    let gap = padding_len (length s.bytes + length F) in
    let front = s.bytes ++ replicate gap 0 in
    let bytes = finished s in
    let total = length_finished s in
    let some : 28 ≤ length F = (let size = length_foot foot in omega arith) in
    let grouped : bytes ≡ front ++ F = sym (append_assoc s.bytes (replicate gap 0) F) in
    let place : length s.bytes ≤ length bytes - length F = omega arith in
    let foot_is : IsFootOf (length bytes) foot = record { entries = is.entries; places = lie_before 4 (length s.bytes) (length bytes - length F) s.chunks place is.places; len = omega arith } in
    let ends_so : length (front ++ F) ≤ length bytes = rw grouped (omega arith) in
    let read : foot_of bytes (length bytes) ≡ Ok foot = ap (λ l. foot_of l (length bytes)) grouped ∙ foot_again foot front (length bytes) foot_is ends_so in
    let marked : take 4 bytes ≡ codes "FLC2" = take-append-le 4 s.bytes (padded_foot (length s.bytes) F) is.long ∙ is.mark in
    let begins : begun bytes ≡ Ok (length bytes) = rw (le-ltb (length bytes) 28 (omega arith), marked) refl in
    record {
      chunks = s.chunks;
      foot = ap (λ r. then_with r (foot_before bytes)) begins ∙ ap (λ l. foot_of l (length bytes)) (take_all (length bytes) bytes (omega arith)) ∙ read;
      parts_are = chunks_stay s.bytes (padded_foot (length s.bytes) F) 4 s.chunks parts is.places is.parts_are;
    }

pub started_is : (t : PType) (n : Nullability) → IsFileOf (started t n) []
started_is t n = record { mark = refl; long = omega arith; entries = tt; places = refl; parts_are = tt }

shorter : (s : FileSoFar) → length s.bytes ≤ length (finished s)
shorter s = let total = length_finished s in omega arith

pub file_again : (t : PType) (n : Nullability) (parts : List Part) → PartsFit t parts → length (file_bytes t n parts) < 2 ^ 63 → IsReadAs t n parts (file_bytes t n parts)
file_again t n parts fit small =
    let s = fold with_chunk (started t n) parts in
    let is = all_more (started t n) [] parts (started_is t n) fit (let l = shorter s in omega arith) in
    subst (λ u. IsReadAs u n parts (finished s)) (same_type (started t n) parts) (subst (λ u. IsReadAs s.ptype u parts (finished s)) (same_nullability (started t n) parts) (finished_is_read s parts is small))

-- ---- a file that goes on
pub resumed_is : (s : FileSoFar) (parts : List Part) (left : List ℕ) → IsFileOf s parts → IsFileOf (resumed s left) parts
resumed_is s parts left is =
    let more = padded_foot (length s.bytes) (foot_bytes (foot_so_far s)) in
    let l = shorter s in
    let all = length-append (finished s) left in
    let grouped : finished s ++ left ≡ s.bytes ++ (more ++ left) = append_assoc s.bytes more left in
    record {
      mark = ap (take 4) grouped ∙ take-append-le 4 s.bytes (more ++ left) is.long ∙ is.mark;
      long = omega (arith, is.long);
      entries = is.entries;
      places = lie_before 4 (length s.bytes) (length (finished s ++ left)) s.chunks (omega arith) is.places;
      parts_are = subst (λ bytes. AreChunksOf bytes s.chunks parts) (sym grouped) (chunks_stay s.bytes (more ++ left) 4 s.chunks parts is.places is.parts_are);
    }

pub resumed_again : (t : PType) (n : Nullability) (parts more : List Part) (left : List ℕ) → PartsFit t parts → PartsFit t more
    → length (finished (fold with_chunk (resumed (fold with_chunk (started t n) parts) left) more)) < 2 ^ 63 → IsReadAs t n (parts ++ more) (finished (fold with_chunk (resumed (fold with_chunk (started t n) parts) left) more))
resumed_again t n parts more left fit fits small =
    let s = fold with_chunk (started t n) parts in
    let r = fold with_chunk (resumed s left) more in
    let before : length r.bytes < 2 ^ 63 = (let l = shorter r in omega arith) in
    let first : length s.bytes < 2 ^ 63 = (let l = longer (resumed s left) more in let k = shorter s in let all = length-append (finished s) left in omega arith) in
    let is = all_more (started t n) [] parts (started_is t n) fit first in
    let type_is : s.ptype ≡ t = same_type (started t n) parts in
    let all = all_more (resumed s left) parts more (resumed_is s parts left is) (subst (λ u. PartsFit u more) (sym type_is) fits) before in
    subst (λ u. IsReadAs u n (parts ++ more) (finished r)) (same_type (resumed s left) more ∙ type_is) (subst (λ u. IsReadAs r.ptype u (parts ++ more) (finished r)) (same_nullability (resumed s left) more ∙ same_nullability (started t n) parts) (finished_is_read r (parts ++ more) all small))

pub ends_aligned : (s : FileSoFar) → length (finished s) % 64 ≡ 0
ends_aligned s = let total = length_finished s in omega arith
