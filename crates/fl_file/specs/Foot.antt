-- The foot of a file: what it says of each chunk, and its bytes.
use Rattle.std.specs.Prelude.{◌+◌, ◌/◌, ◌%◌, ◌^◌, ◌++◌, ℕ, ℤ, pos, Bool, true, false, List, [], ◌∷◌, length, flat_map, codes, Option, Some, None}
use Rattle.std.specs.Int.{cast_unsigned, to_le_bytes, w64, w128}
use Rattle.fl_types.specs.declared.dtype.Nullability.{Nullability}
use Rattle.fl_types.specs.declared.dtype.Nullability.TheVariants.{NonNullable, Nullable}
use Rattle.fl_types.specs.declared.dtype.PType.{PType}
use Rattle.fl_types.specs.Integers.{code_of}
use Rattle.fl_file.specs.declared.foot.ChunkEntry.{ChunkEntry}
use Rattle.fl_file.specs.declared.foot.Foot.{Foot}
use Rattle.fl_file.specs.declared.statistics.Extremes.{Extremes}
use Rattle.fl_file.specs.Crc32c.{crc32c_of}

-- the type of a file's items, whether nulls may stand among them, and its chunks
pub record FootParts : Type 0 where
  pub ptype : PType
  pub nullability : Nullability
  pub chunks : List ChunkEntry

-- what a foot says, without where it lies in memory
abbrev pub foot_parts : Foot → FootParts
foot_parts foot = record { ptype = foot.ptype; nullability = foot.nullability; chunks = foot.chunks.items }

-- ---- bytes
-- words, unsigned numbers of 64 bits, as bytes
abbrev pub word_bytes : List ℕ → List ℕ
word_bytes words = flat_map (to_le_bytes w64) words

-- 1 for true, 0 for false
abbrev pub bit_word : Bool → ℕ
bit_word true = 1
bit_word false = 0

-- an integer of 128 bits in two's complement: two words, the lower first
abbrev pub integer_bytes : ℤ → List ℕ
integer_bytes z = word_bytes (cast_unsigned w128 z % 2 ^ 64 ∷ cast_unsigned w128 z / 2 ^ 64 ∷ [])

-- the least item; 0 where no item is valid
abbrev pub least_of : Option Extremes → ℤ
least_of None = pos 0
least_of (Some e) = e.least

-- the greatest item; 0 where no item is valid
abbrev pub greatest_of : Option Extremes → ℤ
greatest_of None = pos 0
greatest_of (Some e) = e.greatest

-- the entry of a chunk
abbrev pub entry_bytes : ChunkEntry → List ℕ
entry_bytes e =
    word_bytes (e.offset ∷ e.size ∷ e.checksum ∷ e.statistics.len ∷ e.statistics.null_count ∷ bit_word e.statistics.is_sorted ∷ []) ++ integer_bytes (least_of e.statistics.extremes) ++ integer_bytes (greatest_of e.statistics.extremes) ++ integer_bytes e.statistics.sum

-- the word of a type: its number, and 16 more where nulls may stand
abbrev pub type_word : PType → Nullability → ℕ
type_word ptype NonNullable = code_of ptype
type_word ptype Nullable = code_of ptype + 16

-- what the checksum of a foot covers: the type, and the entry of each chunk
abbrev pub body_bytes : FootParts → List ℕ
body_bytes foot = word_bytes (type_word foot.ptype foot.nullability ∷ []) ++ flat_map entry_bytes foot.chunks

-- what stands behind a body: its checksum, the number of bytes of both, and the mark
abbrev pub end_bytes : List ℕ → List ℕ
end_bytes body = word_bytes (crc32c_of body ∷ (length body + 8) ∷ []) ++ codes "FLC2"

-- the bytes at the end of a file
abbrev pub foot_bytes : FootParts → List ℕ
foot_bytes foot = body_bytes foot ++ end_bytes (body_bytes foot)
