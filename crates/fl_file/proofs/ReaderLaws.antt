-- The foot of a file by its last bytes, and the places of its chunks.
use Rattle.std.proofs.Common.{◌≡◌, ℕ, zero, suc, ◌+◌, ◌-◌, ◌%◌, ◌≤◌, ◌<◌, ◌&&◌, Bool, true, false, eqb, nat_le, nat_lt, codes, List, [], ◌∷◌, length, take, drop, get_or, Option, Some, None, Result, Ok, Err, IsTrue, refl, sym, ap, ◌∙◌, arith, subst, cond}
use Rattle.std.specs.Prelude.{◌≢◌, bytes_eq}
use Rattle.std.proofs.lemmas.Bool.{and_from, and_parts, cond-false, cond-true, eq-eqb, le-leb, le-ltb, leb-true, ne_eqb}
use Rattle.std.proofs.lemmas.List.{drop-drop, drop-take, length-drop, length-take}
use Rattle.std.specs.Int.{from_le_bytes, w64}
use Rattle.fl_types.specs.Bits.{between}
use Rattle.fl_file.specs.declared.error.FileError.{FileError}
use Rattle.fl_file.specs.declared.error.FileError.TheVariants as errors
use Rattle.fl_file.specs.declared.foot.ChunkEntry.{ChunkEntry}
use Rattle.fl_file.specs.Crc32c.{crc32c_of}
use Rattle.fl_file.specs.Foot.{FootParts}
use Rattle.fl_file.specs.FootReading.{Gives, body_of, foot_len_of, foot_of_body, foot_with_len, len_at_end, lie_between, placed, then_with, word_at}
use Rattle.fl_file.specs.FileReading.{GivesFrom, RefusesFrom, begun, chunk_of, foot_before}

-- ---- refusals
pub refused_from : {Y : Type 0} (fails : Bool) (e : FileError) (read : Result Y FileError) → read ≡ Err e → RefusesFrom fails e read
refused_from fails errors.OutOfMemory read h = tt
refused_from fails errors.ReadFault read h = λ _. h
refused_from fails errors.TooShort read h = h
refused_from fails errors.BadMark read h = h
refused_from fails errors.BadLength read h = h
refused_from fails errors.BadChecksum read h = h
refused_from fails errors.BadField read h = h
refused_from fails errors.BadPlace read h = h
refused_from fails errors.BadChunk read h = h
refused_from fails errors.TooLong read h = h
refused_from fails errors.WriteFault read h = h

-- what is given of bytes is given of them where reads can fail
pub given_from : {X Y : Type 0} (fails : Bool) (view : X → Y) (result : Result X FileError) (read : Result Y FileError) → Gives view result read → GivesFrom fails view result read
given_from fails view (Ok x) read h = h
given_from fails view (Err errors.OutOfMemory) read h = tt
given_from fails view (Err errors.ReadFault) read h = λ _. h
given_from fails view (Err errors.TooShort) read h = h
given_from fails view (Err errors.BadMark) read h = h
given_from fails view (Err errors.BadLength) read h = h
given_from fails view (Err errors.BadChecksum) read h = h
given_from fails view (Err errors.BadField) read h = h
given_from fails view (Err errors.BadPlace) read h = h
given_from fails view (Err errors.BadChunk) read h = h
given_from fails view (Err errors.TooLong) read h = h
given_from fails view (Err errors.WriteFault) read h = h

-- ---- the last bytes
-- the end of the first bytes
pub end_of : (bytes : List ℕ) (end n m : ℕ) → end ≤ length bytes → n ≤ end → m ≡ end - n → take n (drop m bytes) ≡ drop m (take end bytes)
end_of bytes end n m within small is = (let parts : m + n ≡ end = omega arith in sym (ap (λ k. drop m (take k bytes)) (sym parts) ∙ drop-take m n bytes))

length_first : (bytes : List ℕ) (end : ℕ) → end ≤ length bytes → length (take end bytes) ≡ end
length_first bytes end within = length-take end bytes ∙ omega arith

pub len_by_end : (bytes last : List ℕ) (end : ℕ) → 28 ≤ end → end ≤ length bytes → last ≡ take 28 (drop (end - 28) bytes) → foot_len_of (take end bytes) end ≡ len_at_end last end
len_by_end bytes last end long within is =
    let n : length (take end bytes) ≡ end = length_first bytes end within in
    let same : last ≡ drop (end - 28) (take end bytes) = is ∙ end_of bytes end 28 (end - 28) within long refl in
    rw (n, le-ltb end 28 long, le-ltb end end (omega arith), same) refl

by_tail : (first tail : List ℕ) (end size m : ℕ) → length first ≡ end → m + size + 12 ≡ end → 16 ≤ size → tail ≡ drop m first → foot_with_len first end size ≡ foot_with_len tail end size
by_tail first tail end size m n parts some is =
    let len : length tail ≡ size + 12 = ap length is ∙ length-drop m first ∙ omega arith in
    let start : length first - 12 - size ≡ m = omega arith in
    let start' : length tail - 12 - size ≡ 0 = omega arith in
    let cut : length first - 20 - (length first - 12 - size) ≡ length tail - 20 - (length tail - 12 - size) = omega arith in
    let body : between (length first - 12 - size) (length first - 20) first ≡ between (length tail - 12 - size) (length tail - 20) tail =
    ap (λ k. take k (drop (length first - 12 - size) first)) cut ∙ ap (λ k. take (length tail - 20 - (length tail - 12 - size)) (drop k first)) start ∙ ap (take (length tail - 20 - (length tail - 12 - size))) (sym is)
    ∙ ap (λ k. take (length tail - 20 - (length tail - 12 - size)) (drop k tail)) (sym start') in
    let at : length first - 20 ≡ m + (length tail - 20) = omega arith in
    let rest : drop (length first - 20) first ≡ drop (length tail - 20) tail = ap (λ k. drop k first) at ∙ sym (drop-drop (length tail - 20) m first) ∙ ap (drop (length tail - 20)) (sym is) in
    let sum : word_at (length first - 20) first ≡ word_at (length tail - 20) tail = ap (λ l. from_le_bytes w64 (take 8 l)) rest in
    ap (λ b. foot_of_body (end - 12 - size) b (word_at (length first - 20) first)) body ∙ ap (foot_of_body (end - 12 - size) (between (length tail - 12 - size) (length tail - 20) tail)) sum

pub foot_by_tail : (bytes last tail : List ℕ) (end size : ℕ) → 28 ≤ end → end ≤ length bytes → last ≡ take 28 (drop (end - 28) bytes) → len_at_end last end ≡ Ok size → 16 ≤ size → size + 12 ≤ end
    → tail ≡ take (size + 12) (drop (end - 12 - size) bytes) → foot_before bytes end ≡ foot_with_len tail end size
foot_by_tail bytes last tail end size long within last_is len some room tail_is =
    let n : length (take end bytes) ≡ end = length_first bytes end within in
    let same : tail ≡ drop (end - 12 - size) (take end bytes) = tail_is ∙ end_of bytes end (size + 12) (end - 12 - size) within room (omega arith) in
    ap (λ r. then_with r (foot_with_len (take end bytes) end)) (len_by_end bytes last end long within last_is ∙ len)
    ∙ by_tail (take end bytes) tail end size (end - 12 - size) n (omega arith) some same

pub no_foot_by_end : (bytes last : List ℕ) (end : ℕ) (e : FileError) → 28 ≤ end → end ≤ length bytes → last ≡ take 28 (drop (end - 28) bytes) → len_at_end last end ≡ Err e → foot_before bytes end ≡ Err e
no_foot_by_end bytes last end e long within last_is len = ap (λ r. then_with r (foot_with_len (take end bytes) end)) (len_by_end bytes last end long within last_is ∙ len)

-- ---- places
pub lie_before : (start end more : ℕ) (es : List ChunkEntry) → end ≤ more → IsTrue (lie_between start end es) → IsTrue (lie_between start more es)
lie_before start end more [] le h = le-leb start more (let l : start ≤ end = leb-true start end h in omega arith)
lie_before start end more (e ∷ es) le h =
    let both = and_parts (eqb (e.offset % 64) 0 && nat_le start e.offset) (lie_between (e.offset + e.size) end es) h in
    and_from (eqb (e.offset % 64) 0 && nat_le start e.offset) (lie_between (e.offset + e.size) more es) both.0 (lie_before (e.offset + e.size) end more es le both.1)

ends_by : (start end : ℕ) (es : List ChunkEntry) → IsTrue (lie_between start end es) → start ≤ end
ends_by start end [] h = leb-true start end h
ends_by start end (e ∷ es) h =
    let both = and_parts (eqb (e.offset % 64) 0 && nat_le start e.offset) (lie_between (e.offset + e.size) end es) h in
    let begins : start ≤ e.offset = leb-true start e.offset (and_parts (eqb (e.offset % 64) 0) (nat_le start e.offset) both.0).1 in
    let rest = ends_by (e.offset + e.size) end es both.1 in
    omega arith

pub chunk_within : (start end : ℕ) (es : List ChunkEntry) (k : ℕ) (e : ChunkEntry) → IsTrue (lie_between start end es) → k < length es → e ≡ get_or es k e → e.offset + e.size ≤ end
chunk_within start end [] k e h lt is = absurd (omega arith)
chunk_within start end (x ∷ es) zero e h lt is =
    let both = and_parts (eqb (x.offset % 64) 0 && nat_le start x.offset) (lie_between (x.offset + x.size) end es) h in
    rw is (ends_by (x.offset + x.size) end es both.1)
chunk_within start end (x ∷ es) (suc k) e h lt is =
    let both = and_parts (eqb (x.offset % 64) 0 && nat_le start x.offset) (lie_between (x.offset + x.size) end es) h in
    chunk_within (x.offset + x.size) end es k e both.1 (omega arith) is

one_of_two : {X : Type 0} (b : Bool) (x y : X) (e : FileError) → cond b (Ok x) (Err e) ≡ Ok y → (b ≡ true) × (x ≡ y)
one_of_two true x y e h = (refl, cc)
one_of_two false x y e h = absurd cc

placed_lies : (end : ℕ) (found : Option FootParts) (foot : FootParts) → placed end found ≡ Ok foot → IsTrue (lie_between 4 end foot.chunks)
placed_lies end None foot h = absurd cc
placed_lies end (Some f) foot h = let both = one_of_two (lie_between 4 end f.chunks) f foot errors.BadPlace h in subst (λ p. IsTrue (lie_between 4 end p.chunks)) both.1 both.0

body_lies : (b : Bool) (start : ℕ) (found : Option FootParts) (foot : FootParts) → cond b (placed start found) (Err errors.BadChecksum) ≡ Ok foot → IsTrue (lie_between 4 start foot.chunks)
body_lies true start found foot h = placed_lies start found foot h
body_lies false start found foot h = absurd cc

read_lies : (bytes : List ℕ) (end : ℕ) (len : Result ℕ FileError) (foot : FootParts) → then_with len (foot_with_len bytes end) ≡ Ok foot → IsTrue (lie_between 4 end foot.chunks)
read_lies bytes end (Err e) foot h = absurd cc
read_lies bytes end (Ok size) foot h =
    let n = length bytes in
    let body = between (n - 12 - size) (n - 20) bytes in
    lie_before 4 (end - 12 - size) end foot.chunks (omega arith) (body_lies (eqb (word_at (n - 20) bytes) (crc32c_of body)) (end - 12 - size) (body_of body) foot h)

-- the chunks of a foot that is read lie before its end
pub foot_lies : (bytes : List ℕ) (end : ℕ) (foot : FootParts) → foot_before bytes end ≡ Ok foot → IsTrue (lie_between 4 end foot.chunks)
foot_lies bytes end foot h = read_lies (take end bytes) end (foot_len_of (take end bytes) end) foot h

begun_by : (short marked : Bool) (len n : ℕ) → cond short (Err errors.TooShort) (cond marked (Ok len) (Err errors.BadMark)) ≡ Ok n → n ≡ len
begun_by true marked len n h = absurd cc
begun_by false true len n h = cc
begun_by false false len n h = absurd cc

pub begun_len : (bytes : List ℕ) (n : ℕ) → begun bytes ≡ Ok n → n ≡ length bytes
begun_len bytes n h = begun_by (nat_lt (length bytes) 28) (bytes_eq (take 4 bytes) (codes "FLC2")) (length bytes) n h

-- a read that failed is no refusal of what was to be read
pub read_failed : {X Y : Type 0} (fails : Bool) (e : FileError) (x : X) (read : Result Y FileError) → RefusesFrom fails e (Ok x) → RefusesFrom fails e read
read_failed fails errors.OutOfMemory x read h = tt
read_failed fails errors.ReadFault x read h = λ f. let wrong = h f in absurd cc
read_failed fails errors.TooShort x read h = absurd cc
read_failed fails errors.BadMark x read h = absurd cc
read_failed fails errors.BadLength x read h = absurd cc
read_failed fails errors.BadChecksum x read h = absurd cc
read_failed fails errors.BadField x read h = absurd cc
read_failed fails errors.BadPlace x read h = absurd cc
read_failed fails errors.BadChunk x read h = absurd cc
read_failed fails errors.TooLong x read h = absurd cc
read_failed fails errors.WriteFault x read h = absurd cc

-- ---- chunks
pub chunk_good : (bytes items : List ℕ) (e : ChunkEntry) (sum : ℕ) → items ≡ take e.size (drop e.offset bytes) → sum ≡ crc32c_of items → sum ≡ e.checksum → chunk_of bytes e ≡ Ok items
chunk_good bytes items e sum read is same = rw (sym read) (cond-true (eqb (crc32c_of items) e.checksum) (Ok items) (Err _) (eq-eqb (crc32c_of items) e.checksum (sym is ∙ same)))

pub chunk_bad : (bytes items : List ℕ) (e : ChunkEntry) (sum : ℕ) → items ≡ take e.size (drop e.offset bytes) → sum ≡ crc32c_of items → sum ≢ e.checksum → chunk_of bytes e ≡ Err errors.BadChunk
chunk_bad bytes items e sum read is other = rw (sym read) (cond-false (eqb (crc32c_of items) e.checksum) (Ok items) (Err _) (ne_eqb (crc32c_of items) e.checksum (subst (λ c. c ≢ e.checksum) is other)))
