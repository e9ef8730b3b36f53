-- The bytes of leaves: of stored integers, and of booleans.
use Rattle.std.specs.Prelude.{◌+◌, ◌*◌, ◌/◌, ◌%◌, ◌==◌, ℕ, ℤ, Bool, false, List, length, flat_map, slice_index, slice_index_or}
use Rattle.std.specs.Int.{Width, bit_at, div_ceil, to_le_bytes, w8, w16, w32, w64}
use Rattle.fastlanes.specs.Layout.{bit_value, from_bits, word_at}
use Rattle.fl_types.specs.Bits.{tabulate}
use Rattle.fl_types.specs.Integers.{bits_of_type, pattern_of, read_as}
use Rattle.fl_types.specs.declared.dtype.PType.{PType}
use Rattle.fl_types.specs.declared.dtype.PType.TheVariants.{U8, U16, U32, U64, I8, I16, I32, I64}

-- ---- stored integers
-- the width of a type's words
abbrev pub width_of_type : PType → Width
width_of_type U8 = w8
width_of_type U16 = w16
width_of_type U32 = w32
width_of_type U64 = w64
width_of_type I8 = w8
width_of_type I16 = w16
width_of_type I32 = w32
width_of_type I64 = w64

-- the bytes of a stored integer, the low byte first
abbrev pub bytes_of_slot : PType → ℤ → List ℕ
bytes_of_slot ptype z = to_le_bytes (width_of_type ptype) (pattern_of ptype z)

-- the bytes of stored integers, one behind the other
abbrev pub bytes_of_slots : PType → List ℤ → List ℕ
bytes_of_slots ptype slots = flat_map (bytes_of_slot ptype) slots

-- the bytes of so many stored integers
abbrev pub slots_size : PType → ℕ → ℕ
slots_size ptype len = len * (bits_of_type ptype / 8)

-- the integer that is stored at a place of bytes
abbrev pub slot_at : PType → List ℕ → ℕ → ℤ
slot_at ptype bytes i = read_as ptype (word_at (bits_of_type ptype) bytes i)

-- the integers of a type that bytes store
abbrev pub slots_of_bytes : PType → List ℕ → ℕ → List ℤ
slots_of_bytes ptype bytes len = tabulate (slot_at ptype bytes) len

-- ---- booleans
-- byte k of booleans: its bit j is the one at place 8 * k + j, 0 behind the last one
unfoldable pub byte_of_bits : List Bool → ℕ → ℕ
byte_of_bits bits k = from_bits (λ j. bit_value (slice_index_or bits (8 * k + j) false)) 8

-- the bytes of so many booleans
abbrev pub bits_size : ℕ → ℕ
bits_size len = div_ceil len 8

-- the bytes of booleans, eight to a byte
abbrev pub bytes_of_bits : List Bool → List ℕ
bytes_of_bits bits = tabulate (byte_of_bits bits) (bits_size (length bits))

-- the boolean at a place of bytes
unfoldable pub bit_of_bytes : List ℕ → ℕ → Bool
bit_of_bytes bytes i = bit_at (slice_index bytes (i / 8)) (i % 8) == 1

-- the booleans that bytes store; bits behind the last one say nothing
abbrev pub bits_of_bytes : List ℕ → ℕ → List Bool
bits_of_bytes bytes len = tabulate (bit_of_bytes bytes) len
