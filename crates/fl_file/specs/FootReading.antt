-- Reading the foot of a file from the file's last bytes.
use Rattle.std.specs.Prelude.{◌+◌, ◌*◌, ◌-◌, ◌/◌, ◌%◌, ◌==◌, ◌^◌, ◌&&◌, ◌||◌, ◌≡◌, ⊤, ℕ, zero, suc, ℤ, pos, Bool, true, false, not, List, [], ◌∷◌, length, take, drop, codes, bytes_eq, Option, Some, None, Result, Ok, Err, int_le, nat_le, nat_lt, if◌then◌else◌}
use Rattle.std.specs.Ordering.{int_eq}
use Rattle.std.specs.Int.{cast_signed, from_le_bytes, w64, w128}
use Rattle.fl_types.specs.declared.dtype.Nullability.{Nullability}
use Rattle.fl_types.specs.declared.dtype.Nullability.TheVariants.{NonNullable, Nullable}
use Rattle.fl_types.specs.declared.dtype.PType.{PType}
use Rattle.fl_types.specs.declared.dtype.PType.TheVariants.{U8, U16, U32, U64, I8, I16, I32, I64}
use Rattle.fl_types.specs.Bits.{between}
use Rattle.fl_types.specs.Integers.{fits}
use Rattle.fl_file.specs.declared.error.FileError.{FileError}
use Rattle.fl_file.specs.declared.error.FileError.TheVariants.{BadChecksum, BadField, BadLength, BadMark, BadPlace, OutOfMemory, TooShort}
use Rattle.fl_file.specs.declared.foot.ChunkEntry.{ChunkEntry}
use Rattle.fl_file.specs.declared.statistics.ChunkStatistics.{ChunkStatistics}
use Rattle.fl_file.specs.declared.statistics.Extremes.{Extremes}
use Rattle.fl_file.specs.Crc32c.{crc32c_of}
use Rattle.fl_file.specs.Foot.{FootParts}

infixl 10 ◌>>=◌
-- one step and then another, where the first finds something
abbrev pub ◌>>=◌ : {A B : Type 0} → Option A → (A → Option B) → Option B
None >>= f = None
(Some x) >>= f = f x

-- one step and then another, where the first is not refused
abbrev pub then_with : {A B : Type 0} → Result A FileError → (A → Result B FileError) → Result B FileError
then_with (Ok x) f = f x
then_with (Err e) f = Err e

-- a call refused as reading does, unless memory ran out
abbrev pub Refuses : {Y : Type 0} → FileError → Result Y FileError → Type 0
Refuses OutOfMemory read = ⊤
Refuses e read = read ≡ Err e

-- a call gave what is read, seen by view, or why nothing is, unless memory ran out
abbrev pub Gives : {X Y : Type 0} → (X → Y) → Result X FileError → Result Y FileError → Type 0
Gives view (Ok x) read = read ≡ Ok (view x)
Gives view (Err e) read = Refuses e read

-- an error for want of memory, or as nothing is found
abbrev pub IsMissing : {Y : Type 0} → FileError → Option Y → Type 0
IsMissing OutOfMemory found = ⊤
IsMissing BadField found = found ≡ None
IsMissing other found = ⊥

-- a call found what stands there, seen by view, or refused a field as out of its range where nothing does, unless memory ran out
abbrev pub Finds : {X Y : Type 0} → (X → Y) → Result X FileError → Option Y → Type 0
Finds view (Ok x) found = found ≡ Some (view x)
Finds view (Err e) found = IsMissing e found

-- ---- words
-- the word whose bytes begin at this one
abbrev pub word_at : ℕ → List ℕ → ℕ
word_at i bytes = from_le_bytes w64 (take 8 (drop i bytes))

-- the integer of two words
abbrev pub integer_of_words : ℕ → ℕ → ℤ
integer_of_words low high = cast_signed w128 (high * 2 ^ 64 + low)

-- the integer whose words begin at this byte
abbrev pub integer_at : ℕ → List ℕ → ℤ
integer_at i bytes = integer_of_words (word_at i bytes) (word_at (i + 8) bytes)

-- the type that a number stands for
abbrev pub ptype_numbered : ℕ → Option PType
ptype_numbered n =
    if n == 0 then Some U8 else if n == 1 then Some U16 else if n == 2 then Some U32 else if n == 3 then Some U64
    else if n == 4 then Some I8 else if n == 5 then Some I16 else if n == 6 then Some I32 else if n == 7 then Some I64 else None

-- the type that a word stands for, and whether nulls may stand
abbrev pub type_of_word : ℕ → Option (PType × Nullability)
type_of_word n = if nat_lt n 16 then (ptype_numbered n >>= λ t. Some (t, NonNullable)) else (ptype_numbered (n - 16) >>= λ t. Some (t, Nullable))

-- ---- an entry: 96 bytes
-- what a word says of an order
abbrev pub order_of_word : ℕ → Option Bool
order_of_word n = if n == 0 then Some false else if n == 1 then Some true else None

-- the least and the greatest item, where one is valid; else both fields are 0
abbrev pub extremes_of : PType → Bool → ℤ → ℤ → Option (Option Extremes)
extremes_of ptype true least greatest = if fits ptype least && fits ptype greatest && int_le least greatest then Some (Some (record { least = least; greatest = greatest })) else None
extremes_of ptype false least greatest = if int_eq least (pos 0) && int_eq greatest (pos 0) then Some None else None

-- what is known of items by these fields, where none is out of its range
unfoldable pub statistics_of : PType → ℕ → ℕ → ℕ → ℤ → ℤ → ℤ → Option ChunkStatistics
statistics_of ptype len null_count order least greatest sum =
    if nat_lt len (2 ^ 63) && nat_le null_count len
    then (order_of_word order >>= λ sorted. extremes_of ptype (nat_lt null_count len) least greatest >>= λ extremes. Some (record { len = len; null_count = null_count; extremes = extremes; is_sorted = sorted; sum = sum }))
    else None

-- what an entry says of the items
abbrev pub statistics_at : PType → List ℕ → Option ChunkStatistics
statistics_at ptype bytes = statistics_of ptype (word_at 24 bytes) (word_at 32 bytes) (word_at 40 bytes) (integer_at 48 bytes) (integer_at 64 bytes) (integer_at 80 bytes)

-- a chunk with these fields, where none is out of its range
abbrev pub entry_of : ℕ → ℕ → ℕ → Option ChunkStatistics → Option ChunkEntry
entry_of offset size checksum None = None
entry_of offset size checksum (Some s) = if nat_lt checksum (2 ^ 32) then Some (record { offset = offset; size = size; checksum = checksum; statistics = s }) else None

-- what is said of a chunk
unfoldable pub entry_at : PType → List ℕ → Option ChunkEntry
entry_at ptype bytes = entry_of (word_at 0 bytes) (word_at 8 bytes) (word_at 16 bytes) (statistics_at ptype bytes)

-- so many entries, one after another
unfoldable pub entries_at : PType → ℕ → List ℕ → Option (List ChunkEntry)
entries_at ptype zero bytes = Some []
entries_at ptype (suc n) bytes = entry_at ptype (take 96 bytes) >>= λ first. entries_at ptype n (drop 96 bytes) >>= λ others. Some (first ∷ others)

-- what the type and the entries of a body say
unfoldable pub body_of : List ℕ → Option FootParts
body_of bytes = type_of_word (word_at 0 bytes) >>= λ t. entries_at t.0 (length bytes / 96) (drop 8 bytes) >>= λ chunks. Some (record { ptype = t.0; nullability = t.1; chunks = chunks })

-- ---- the whole
-- each chunk begins at a multiple of 64, not before this place and the end of the chunk before it, and ends at another place at most
abbrev pub lie_between : ℕ → ℕ → List ChunkEntry → Bool
lie_between start end [] = nat_le start end
lie_between start end (e ∷ es) = (e.offset % 64 == 0) && nat_le start e.offset && lie_between (e.offset + e.size) end es

-- the same from a place, if there is one; where there is none, they don't
abbrev pub lies_from : Option ℕ → ℕ → List ChunkEntry → Bool
lies_from None end es = false
lies_from (Some place) end es = lie_between place end es

-- the foot whose chunks lie in the file before its bytes, which begin here
abbrev pub placed : ℕ → Option FootParts → Result FootParts FileError
placed end None = Err BadField
placed end (Some foot) = if lie_between 4 end foot.chunks then Ok foot else Err BadPlace

-- the foot of this body, which stands behind so many bytes of the file
abbrev pub foot_of_body : ℕ → List ℕ → ℕ → Result FootParts FileError
foot_of_body start body checksum = if checksum == crc32c_of body then placed start (body_of body) else Err BadChecksum

-- how many bytes the body and its checksum are, in a file with so many bytes of which these are the last 28
unfoldable pub len_at_end : List ℕ → ℕ → Result ℕ FileError
len_at_end end file_len =
    let size = word_at 16 end in
    if not (bytes_eq (drop 24 end) (codes "FLC2")) then Err BadMark
    else if (size % 96 == 16) && nat_le size (file_len - 12) then Ok size else Err BadLength

-- the same at the end of these bytes, which are the last ones of a file with so many bytes, and have to be so many
abbrev pub foot_len_of : List ℕ → ℕ → Result ℕ FileError
foot_len_of bytes file_len =
    let n = length bytes in
    if nat_lt n 28 || nat_lt file_len n then Err TooShort else len_at_end (drop (n - 28) bytes) n

-- the foot whose body and checksum are so many bytes before the last twelve
abbrev pub foot_with_len : List ℕ → ℕ → ℕ → Result FootParts FileError
foot_with_len bytes file_len size = let n = length bytes in foot_of_body (file_len - 12 - size) (between (n - 12 - size) (n - 20) bytes) (word_at (n - 20) bytes)

-- the foot at the end of these bytes, which are the last ones of a file with so many bytes; or why there is none
abbrev pub foot_of : List ℕ → ℕ → Result FootParts FileError
foot_of bytes file_len = then_with (foot_len_of bytes file_len) (foot_with_len bytes file_len)
