-- Columns in files of chunks.
use Rattle.std.proofs.Common.{◌≡◌, ℕ, zero, suc, ◌+◌, ◌<◌, ◌≤◌, ◌++◌, List, [], ◌∷◌, length, take, drop, map, get_or, Bool, true, false, pos, Option, Some, None, Result, Ok, Err, IsErrAnd, inl, inr, ap, sym, ◌∙◌, subst, refl, arith, cond, add-one, eqb}
use Rattle.std.specs.Prelude.{◌≢◌, ◌⊎◌, IfOk, IfErr, option_map}
use Rattle.std.specs.List.{slice_get}
use Rattle.std.proofs.lemmas.Bool.{cases_Bool}
use Rattle.std.proofs.lemmas.Option.{slice_get-map}
use Rattle.fl_types.specs.declared.dtype.DType.{DType}
use Rattle.fl_types.specs.declared.dtype.DType.TheVariants.{Primitive}
use Rattle.fl_types.specs.declared.error.FastLanesError.{FastLanesError}
use Rattle.fl_types.specs.declared.error.FastLanesError.TheVariants.{OutOfMemory, TypeMismatch}
use Rattle.fl_column.specs.Columns.{Column}
use Rattle.fl_file.specs.declared.foot.ChunkEntry.{ChunkEntry}
use Rattle.fl_file.specs.declared.error.FileError.{FileError}
use Rattle.fl_file.specs.declared.error.FileError.TheVariants as files
use Rattle.fl_file.specs.declared.reader.Reader.{Reader}
use Rattle.fl_file.specs.declared.statistics.ChunkStatistics.{ChunkStatistics}
use Rattle.fl_file.specs.Crc32c.{crc32c_of}
use Rattle.fl_file.specs.Foot.{FootParts}
use Rattle.fl_file.specs.FileReading.{GivesFrom, IsReaderOf, RefusesFrom, chunk_of, foot_of_reader, place_of}
use Rattle.fl_file.specs.Statistics.{statistics_of_column}
use Rattle.flcol_file.specs.declared.error.ColumnFileError.{ColumnFileError}
use Rattle.flcol_file.specs.declared.error.ColumnFileError.TheVariants.{Array, BadStatistics, File}
use Rattle.fl_array.specs.Trees.{Tree, column}
use Rattle.fl_array.specs.Reads.{integer_column}
use Rattle.flcol_file.proofs.SameStatistics.{same_by, same_false, same_true}
use Rattle.fl_types.specs.declared.dtype.Nullability.{Nullability}
use Rattle.fl_types.specs.declared.dtype.PType.{PType}
use Rattle.flcol_file.specs.Chunks.{array_of}
use Rattle.flcol_file.specs.Files.{GivesArray, HoldEach, HoldsColumn, HoldsColumns, IsChunkVerdict, IsFirstRefusal, IsMisfit, IsMisfitting, IsRefused, IsVerdict, array_at, array_in}
use Rattle.flcol_file.specs.Outcomes.{AnswersFrom, IsFault, of_file}

-- ---- reads that fail
no_fault : (b : Bool) (chunk : List ℕ) → cond b (Ok chunk) (Err files.BadChunk) ≡ Err files.ReadFault → ⊥
no_fault true chunk h = absurd cc
no_fault false chunk h = absurd cc

fault_of : (fails : Bool) (b : Bool) (chunk : List ℕ) → (fails ≡ false → cond b (Ok chunk) (Err files.BadChunk) ≡ Err files.ReadFault) → fails ≡ true
fault_of true b chunk h = refl
fault_of false b chunk h = absurd (no_fault b chunk (h refl))

-- a chunk that was not read is refused, unless memory ran out or a read failed
pub not_read : (fails : Bool) (e : FileError) (bytes : List ℕ) (entry : ChunkEntry) → RefusesFrom fails e (chunk_of bytes entry) → IsFault fails (of_file e) ⊎ (array_at bytes entry ≡ Err (of_file e))
not_read fails files.OutOfMemory bytes entry h = inl (inl refl)
not_read fails files.ReadFault bytes entry h = let chunk = take entry.size (drop entry.offset bytes) in inl (inr (refl, fault_of fails (eqb (crc32c_of chunk) entry.checksum) chunk h))
not_read fails files.TooShort bytes entry h = inr (ap array_in h)
not_read fails files.BadMark bytes entry h = inr (ap array_in h)
not_read fails files.BadLength bytes entry h = inr (ap array_in h)
not_read fails files.BadChecksum bytes entry h = inr (ap array_in h)
not_read fails files.BadField bytes entry h = inr (ap array_in h)
not_read fails files.BadPlace bytes entry h = inr (ap array_in h)
not_read fails files.BadChunk bytes entry h = inr (ap array_in h)
not_read fails files.TooLong bytes entry h = inr (ap array_in h)
not_read fails files.WriteFault bytes entry h = inr (ap array_in h)

-- an array of bytes in memory is one of a chunk of these bytes
pub of_chunk : (fails : Bool) (bytes : List ℕ) (entry : ChunkEntry) (chunk : List ℕ) (r : Result Tree ColumnFileError) → chunk_of bytes entry ≡ Ok chunk → AnswersFrom false (λ a. a) r (array_of chunk) → AnswersFrom fails (λ a. a) r (array_at bytes entry)
of_chunk fails bytes entry chunk (Ok t) read h = ap array_in read ∙ h
of_chunk fails bytes entry chunk (Err e) read h = elim h [
  | inl (inl memory) ↦ inl (inl memory)
  | inl (inr never) ↦ absurd (let wrong : false ≡ true = never.1 in cc)
  | inr refused ↦ inr (ap array_in read ∙ refused)
]

pub with_error : (fails : Bool) (r : Result Tree ColumnFileError) (e : ColumnFileError) (answer : Result Tree ColumnFileError) → IsErrAnd r (λ x. x ≡ e) → IsFault fails e ⊎ (answer ≡ Err e) → AnswersFrom fails (λ a. a) r answer
with_error fails (Ok x) e answer is h = absurd is
with_error fails (Err x) e answer is h = subst (λ y. IsFault fails y ⊎ (answer ≡ Err y)) (sym is) h

-- ---- arrays that fit
some_same : {A : Type 0} (d e : A) → Some d ≡ Some e → d ≡ e
some_same d e h = cc

ok_same : (t u : Tree) (r : Result Tree ColumnFileError) → r ≡ Ok t → r ≡ Ok u → t ≡ u
ok_same t u r p q = cc

not_both : (t : Tree) (e : ColumnFileError) (r : Result Tree ColumnFileError) → r ≡ Ok t → r ≡ Err e → ⊥
not_both t e r p q = let wrong : Ok t ≡ Err e = sym p ∙ q in absurd cc

-- an array that does not fit the foot holds no column
pub misfit : (bytes : List ℕ) (foot : FootParts) (e : ChunkEntry) (t : Tree) (error : ColumnFileError) → array_at bytes e ≡ Ok t → IsMisfitting (Primitive foot.ptype foot.nullability) e.statistics.len (column t) error → IsRefused bytes foot e error
misfit bytes foot e t error stored h = elim h [
  | inl type ↦ inr (t, stored, inl type)
  | inr long ↦ inr (t, stored, inr (long.0, long.1, λ same. long.2 (sym (ap (λ (s : ChunkStatistics). s.len) same))))
]

pub gives : (fails : Bool) (bytes : List ℕ) (foot : FootParts) (e : ChunkEntry) (r : Result Tree ColumnFileError) → AnswersFrom fails (λ a. a) r (array_at bytes e) → GivesArray fails bytes foot e r
gives fails bytes foot e (Ok t) h = h
gives fails bytes foot e (Err error) h = elim h [
  | inl fault ↦ inl fault
  | inr refused ↦ inr (inl refused)
]

pub gives_refused : (fails : Bool) (bytes : List ℕ) (foot : FootParts) (e : ChunkEntry) (error : ColumnFileError) → IsFault fails error ⊎ (array_at bytes e ≡ Err error) → IsFault fails error ⊎ IsRefused bytes foot e error
gives_refused fails bytes foot e error h = elim h [
  | inl fault ↦ inl fault
  | inr refused ↦ inr (inl refused)
]

pub gives_error : (fails : Bool) (bytes : List ℕ) (foot : FootParts) (e : ChunkEntry) (r : Result Tree ColumnFileError) (error : ColumnFileError) → IsErrAnd r (λ x. x ≡ error) → IsFault fails error ⊎ IsRefused bytes foot e error → GivesArray fails bytes foot e r
gives_error fails bytes foot e (Ok x) error is h = absurd is
gives_error fails bytes foot e (Err x) error is h = subst (λ y. IsFault fails y ⊎ IsRefused bytes foot e y) (sym is) h

-- what fits is given, and what does not is refused
pub given : (fails : Bool) (bytes : List ℕ) (foot : FootParts) (e : ChunkEntry) (t : Tree) (dtype : DType) (len : ℕ) (r : Result Tree ColumnFileError) → array_at bytes e ≡ Ok t → dtype ≡ Primitive foot.ptype foot.nullability → len ≡ e.statistics.len
    → IfOk r (λ a. (a ≡ t) × ((column t).dtype ≡ dtype) × (length (column t).items ≡ len)) → IfErr r (λ error. IsMisfitting dtype len (column t) error) → GivesArray fails bytes foot e r
given fails bytes foot e t dtype len (Ok a) stored type long fit refused = stored ∙ ap (λ x. Ok x) (sym fit.0)
given fails bytes foot e t dtype len (Err error) stored type long fit refused =
    inr (misfit bytes foot e t error stored (subst (λ n. IsMisfitting (Primitive foot.ptype foot.nullability) n (column t) error) long (subst (λ d. IsMisfitting d len (column t) error) type refused)))

pub given_type : (t : Tree) (dtype : DType) (d : DType) (len : ℕ) (r : Result Tree ColumnFileError) → dtype ≡ d → IfOk r (λ a. (a ≡ t) × ((column t).dtype ≡ dtype) × (length (column t).items ≡ len)) → IfOk r (λ a. (column a).dtype ≡ d)
given_type t dtype d len (Ok a) same fit = ap (λ x. (column x).dtype) fit.0 ∙ (fit.1 ∙ same)
given_type t dtype d len (Err e) same fit = tt

pub given_len : (t : Tree) (dtype : DType) (len n : ℕ) (r : Result Tree ColumnFileError) → len ≡ n → IfOk r (λ a. (a ≡ t) × ((column t).dtype ≡ dtype) × (length (column t).items ≡ len)) → IfOk r (λ a. length (column a).items ≡ n)
given_len t dtype len n (Ok a) same fit = ap (λ x. length (column x).items) fit.0 ∙ (fit.2 ∙ same)
given_len t dtype len n (Err e) same fit = tt

-- the length that is known of a chunk
pub known_len : (es : List ChunkEntry) (k : ℕ) (e : ChunkEntry) (s : ChunkStatistics) → slice_get es k ≡ Some e → slice_get (map (λ x. x.statistics) es) k ≡ Some s → e.statistics.len ≡ s.len
known_len es k e s found known =
    let is : Some e.statistics ≡ Some s = sym (slice_get-map (λ (x : ChunkEntry). x.statistics) es k ∙ ap (option_map (λ (x : ChunkEntry). x.statistics)) found) ∙ known in
    ap (λ (x : ChunkStatistics). x.len) (some_same e.statistics s is)

-- ---- chunks that hold columns
-- a column, and the chunk that holds it
pub record At (bytes : List ℕ) (foot : FootParts) (es : List ChunkEntry) (k : ℕ) (c : Column) : Type 0 where
  pub entry : ChunkEntry
  pub found : slice_get es k ≡ Some entry
  pub holds : HoldsColumn bytes foot entry c

pub column_at : (bytes : List ℕ) (foot : FootParts) (es : List ChunkEntry) (columns : List Column) (k : ℕ) (c : Column) → HoldEach bytes foot es columns → slice_get columns k ≡ Some c → At bytes foot es k c
column_at bytes foot [] [] k c h found = absurd (let wrong : None ≡ Some c = found in cc)
column_at bytes foot [] (d ∷ columns) k c h found = absurd h
column_at bytes foot (e ∷ es) [] k c h found = absurd h
column_at bytes foot (e ∷ es) (d ∷ columns) zero c h found = record { entry = e; found = refl; holds = subst (λ x. HoldsColumn bytes foot e x) (some_same d c found) h.0 }
column_at bytes foot (e ∷ es) (d ∷ columns) (suc k) c h found = let a = column_at bytes foot es columns k c h.1 found in record { entry = a.entry; found = a.found; holds = a.holds }

-- a chunk that holds a column is not refused
not_refused : (bytes : List ℕ) (foot : FootParts) (e : ChunkEntry) (c : Column) (error : ColumnFileError) → HoldsColumn bytes foot e c → IsRefused bytes foot e error → ⊥
not_refused bytes foot e c error h refused = elim refused [
  | inl none ↦ not_both h.array error (array_at bytes e) h.stored none
  | inr (t, stored, inl type) ↦ type.1 (ap (λ x. x.dtype) (ap column (ok_same t h.array (array_at bytes e) stored h.stored) ∙ h.is_column) ∙ h.typed)
  | inr (t, stored, inr other) ↦ other.2 (h.statistics ∙ ap statistics_of_column (sym (ap column (ok_same t h.array (array_at bytes e) stored h.stored) ∙ h.is_column)))
]

pub answer_held : (fails : Bool) (bytes : List ℕ) (foot : FootParts) (e : ChunkEntry) (c : Column) (r : Result Tree ColumnFileError) → HoldsColumn bytes foot e c → GivesArray fails bytes foot e r → AnswersFrom fails column r (Ok c)
answer_held fails bytes foot e c (Ok t) h given = ap (λ x. Ok x) (sym (ap column (ok_same t h.array (array_at bytes e) given h.stored) ∙ h.is_column))
answer_held fails bytes foot e c (Err error) h given = elim given [
  | inl fault ↦ inl fault
  | inr refused ↦ absurd (not_refused bytes foot e c error h refused)
]

-- ---- chunks that are verified one by one
pub held_more : (bytes : List ℕ) (foot : FootParts) (es : List ChunkEntry) (columns : List Column) (k : ℕ) (e : ChunkEntry) (c : Column) → HoldEach bytes foot (take k es) columns → slice_get es k ≡ Some e → HoldsColumn bytes foot e c → HoldEach bytes foot (take (suc k) es) (columns ++ c ∷ [])
held_more bytes foot [] columns k e c h found here = absurd (let wrong : None ≡ Some e = found in cc)
held_more bytes foot (d ∷ es) [] zero e c h found here = (subst (λ x. HoldsColumn bytes foot x c) (sym (some_same d e found)) here, tt)
held_more bytes foot (d ∷ es) (b ∷ columns) zero e c h found here = absurd h
held_more bytes foot (d ∷ es) [] (suc k) e c h found here = absurd h
held_more bytes foot (d ∷ es) (b ∷ columns) (suc k) e c h found here = (h.0, held_more bytes foot es columns k e c h.1 found here)

pub first_refusal : (bytes : List ℕ) (foot : FootParts) (es : List ChunkEntry) (columns : List Column) (k : ℕ) (e : ChunkEntry) (error : ColumnFileError) → HoldEach bytes foot (take k es) columns → slice_get es k ≡ Some e → IsRefused bytes foot e error → IsFirstRefusal bytes foot es error
first_refusal bytes foot [] columns k e error h found refused = absurd (let wrong : None ≡ Some e = found in cc)
first_refusal bytes foot (d ∷ es) columns zero e error h found refused = inl (subst (λ x. IsRefused bytes foot x error) (sym (some_same d e found)) refused)
first_refusal bytes foot (d ∷ es) [] (suc k) e error h found refused = absurd h
first_refusal bytes foot (d ∷ es) (b ∷ columns) (suc k) e error h found refused = inr ((b, h.0), first_refusal bytes foot es columns k e error h.1 found refused)

pub take_more : (es : List ChunkEntry) (k : ℕ) → take (k + 1) es ≡ take (suc k) es
take_more es k = ap (λ n. take n es) (add-one k)

pub chunk_refused : {X : Type 0} (fails : Bool) (bytes : List ℕ) (foot : FootParts) (e : ChunkEntry) (r : Result X ColumnFileError) (error : ColumnFileError) → IsErrAnd r (λ x. x ≡ error) → IsFault fails error ⊎ IsRefused bytes foot e error → IsChunkVerdict fails bytes foot e r
chunk_refused fails bytes foot e (Ok x) error is h = absurd is
chunk_refused fails bytes foot e (Err x) error is h = subst (λ y. IsFault fails y ⊎ IsRefused bytes foot e y) (sym is) h

pub file_refused : {X : Type 0} (fails : Bool) (bytes : List ℕ) (foot : FootParts) (columns : List Column) (k : ℕ) (e : ChunkEntry) (r : Result X ColumnFileError) (error : ColumnFileError) → IsErrAnd r (λ x. x ≡ error) → HoldEach bytes foot (take k foot.chunks) columns → slice_get foot.chunks k ≡ Some e
    → IsFault fails error ⊎ IsRefused bytes foot e error → IsVerdict fails bytes foot r
file_refused fails bytes foot columns k e (Ok x) error is held found h = absurd is
file_refused fails bytes foot columns k e (Err x) error is held found h = subst (λ y. IsFault fails y ⊎ IsFirstRefusal bytes foot foot.chunks y) (sym is) (elim h [
  | inl fault ↦ inl fault
  | inr refused ↦ inr (first_refusal bytes foot foot.chunks columns k e error held found refused)
])

-- an entry without a meaning
abbrev pub no_entry : ChunkEntry
no_entry = record { offset = 0; size = 0; checksum = 0; statistics = record { len = 0; null_count = 0; extremes = None; is_sorted = false; sum = pos 0 } }

pub entry_found : (es : List ChunkEntry) (k : ℕ) (d : ChunkEntry) → k < length es → slice_get es k ≡ Some (get_or es k d)
entry_found [] k d h = absurd (omega arith)
entry_found (e ∷ es) zero d h = refl
entry_found (e ∷ es) (suc k) d h = entry_found es k d (omega arith)

pub entry_is : (es : List ChunkEntry) (k : ℕ) (e d : ChunkEntry) → slice_get es k ≡ Some e → get_or es k d ≡ e
entry_is [] k e d h = absurd (let wrong : None ≡ Some e = h in cc)
entry_is (x ∷ es) zero e d h = some_same x e h
entry_is (x ∷ es) (suc k) e d h = entry_is es k e d h

pub types_same : (p q : PType) (m n : Nullability) → p ≡ q → m ≡ n → Primitive p m ≡ Primitive q n
types_same p q m n h k = ap (λ x. Primitive x m) h ∙ ap (Primitive q) k

-- ---- one chunk that is verified
plain_is : (c d : Column) (p : PType) (n : Nullability) → c.dtype ≡ Primitive p n → integer_column c ≡ Ok d → d ≡ c
plain_is c d p n typed plain = let is : integer_column c ≡ Ok c = rw typed refl in cc

pub verified : (bytes : List ℕ) (foot : FootParts) (e d : ChunkEntry) (t : Tree) (s : ChunkStatistics) (plain : Column) (r : Bool) → array_at bytes e ≡ Ok t → (column t).dtype ≡ Primitive foot.ptype foot.nullability → integer_column (column t) ≡ Ok plain
    → s ≡ statistics_of_column plain → r ≡ same_by s d.statistics → r ≡ true → d ≡ e → HoldsColumn bytes foot e (column t)
verified bytes foot e d t s plain r stored typed decoded exact test is entry = record {
  array = t;
  stored = stored;
  is_column = refl;
  typed = typed;
  statistics = ap (λ (x : ChunkEntry). x.statistics) (sym entry) ∙ (sym (same_true s d.statistics (sym test ∙ is)) ∙ (exact ∙ ap statistics_of_column (plain_is (column t) plain foot.ptype foot.nullability typed decoded)));
}

pub unverified : (bytes : List ℕ) (foot : FootParts) (e d : ChunkEntry) (t : Tree) (s : ChunkStatistics) (plain : Column) (r : Bool) → array_at bytes e ≡ Ok t → (column t).dtype ≡ Primitive foot.ptype foot.nullability → integer_column (column t) ≡ Ok plain
    → s ≡ statistics_of_column plain → r ≡ same_by s d.statistics → r ≡ false → d ≡ e → IsRefused bytes foot e BadStatistics
unverified bytes foot e d t s plain r stored typed decoded exact test is entry =
    inr (t, stored, inr (refl, typed, λ same. same_false s d.statistics (sym test ∙ is) (exact ∙ (ap statistics_of_column (plain_is (column t) plain foot.ptype foot.nullability typed decoded) ∙ (sym same ∙ ap (λ (x : ChunkEntry). x.statistics) (sym entry))))))

-- ---- all chunks
pub next_held : (bytes : List ℕ) (foot now : FootParts) (k : ℕ) → now ≡ foot → k < length foot.chunks → (columns : List Column) × HoldEach bytes foot (take k foot.chunks) columns → ((e : ChunkEntry) → slice_get now.chunks k ≡ Some e → (c : Column) × HoldsColumn bytes now e c)
    → (columns : List Column) × HoldEach bytes foot (take (k + 1) foot.chunks) columns
next_held bytes foot now k same below (columns, held) here =
    let found = entry_found foot.chunks k no_entry below in
    let e = get_or foot.chunks k no_entry in
    let c = subst (λ (f : FootParts). (e : ChunkEntry) → slice_get f.chunks k ≡ Some e → (c : Column) × HoldsColumn bytes f e c) same here e found in
    (columns ++ c.0 ∷ [], subst (λ es. HoldEach bytes foot es (columns ++ c.0 ∷ [])) (sym (take_more foot.chunks k)) (held_more bytes foot foot.chunks columns k e c.0 held found c.1))

pub file_stops : {X : Type 0} (before fails : Bool) (bytes : List ℕ) (foot now : FootParts) (k : ℕ) (r : Result X ColumnFileError) (error : ColumnFileError) → before ≡ fails → now ≡ foot → k < length foot.chunks → IsErrAnd r (λ x. x ≡ error) → (columns : List Column) × HoldEach bytes foot (take k foot.chunks) columns
    → ((e : ChunkEntry) → slice_get now.chunks k ≡ Some e → IsFault before error ⊎ IsRefused bytes now e error) → IsVerdict fails bytes foot r
file_stops before fails bytes foot now k r error fault same below is (columns, held) here =
    let found = entry_found foot.chunks k no_entry below in
    let e = get_or foot.chunks k no_entry in
    let h = subst (λ (f : FootParts). (e : ChunkEntry) → slice_get f.chunks k ≡ Some e → IsFault before error ⊎ IsRefused bytes f e error) same here e found in
    file_refused fails bytes foot columns k e r error is held found (subst (λ b. IsFault b error ⊎ IsRefused bytes foot e error) fault h)
