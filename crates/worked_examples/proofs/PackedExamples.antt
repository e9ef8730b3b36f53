-- Definitions held against worked examples, by computing.
use Rattle.std.specs.Prelude.{◌≡◌, ℕ, negsuc, pos, true, false, [], ◌∷◌, length, option_map, replicate, Some, None, Err, refl}
use Rattle.fl_types.specs.declared.dtype.PType.TheVariants.{I8, U16, U8}
use Rattle.fl_types.specs.declared.error.FastLanesError.TheVariants.{LengthOverflow, OffsetTooLarge, PackedLength}
use Rattle.fl_types.specs.declared.validity.Validity.TheVariants as valid
use Rattle.fastlanes.specs.Layout.{from_bits, packed_bit, row_of, unpacked_bits, unpacked_item}
use Rattle.fl_bitpacking.specs.Blocks.{are_blocks, block_item, boundary_array}
use Rattle.fl_bitpacking.specs.Readers.{Reader, initial_items, new_reader, trailer_items, whole_blocks}

-- ---- boundaries
-- a block of width 2, and one of width 0
two_blocks : boundary_array (2 ∷ 0 ∷ []) ≡ record { ptype = U16; slots = pos 0 ∷ pos 256 ∷ pos 256 ∷ []; validity = valid.NonNullable }
two_blocks = refl

no_blocks : boundary_array [] ≡ record { ptype = U8; slots = pos 0 ∷ []; validity = valid.NonNullable }
no_blocks = refl

-- the first boundary need not be 0
from_ten : are_blocks 32 384 (10 ∷ 394 ∷ []) ≡ true
from_ten = refl

-- a width is a whole number
uneven : are_blocks 32 100 (0 ∷ 100 ∷ []) ≡ false
uneven = refl

-- nine bits of a byte
too_wide : are_blocks 8 1152 (0 ∷ 1152 ∷ []) ≡ false
too_wide = refl

falling : are_blocks 8 256 (128 ∷ 0 ∷ []) ≡ false
falling = refl

beyond_the_bytes : are_blocks 8 128 (0 ∷ 256 ∷ []) ≡ false
beyond_the_bytes = refl

-- ---- items
-- eight bits that are set are -1
negative : block_item I8 8 (replicate 1024 255) 1023 ≡ negsuc 0
unfolding block_item unpacked_item unpacked_bits from_bits packed_bit row_of
negative = refl

-- ---- readers
-- the offset is judged first, then the length rounded up to whole blocks, then the bytes
offset_first : new_reader [] 0 1024 18446744073709551615 ≡ Err OffsetTooLarge
offset_first = refl

too_long : new_reader [] 0 1 18446744073709551615 ≡ Err LengthOverflow
too_long = refl

too_long_when_rounded : new_reader [] 0 0 18446744073709551615 ≡ Err LengthOverflow
too_long_when_rounded = refl

one_byte_short : new_reader (replicate 127 0) 1 0 1024 ≡ Err PackedLength
one_byte_short = refl

-- so many items of width 0 from an offset on
abbrev nothing : ℕ → ℕ → Reader
nothing offset len = record { packed = []; bit_width = 0; offset = offset; len = len; work = record { blocks = 0; words = 0 } }

-- the only block is lent once
only_block : option_map (λ items. length items) (initial_items U8 (nothing 0 1024)) ≡ Some 1024
only_block = refl

no_further_block : (whole_blocks (nothing 0 1024)).next ≡ (whole_blocks (nothing 0 1024)).end
no_further_block = refl

no_last_block : trailer_items U8 (nothing 0 1024) ≡ None
no_last_block = refl

-- two blocks, both cut
first_block : option_map (λ items. length items) (initial_items U8 (nothing 500 1000)) ≡ Some 524
first_block = refl

none_between : (whole_blocks (nothing 500 1000)).next ≡ (whole_blocks (nothing 500 1000)).end
none_between = refl

last_block : option_map (λ items. length items) (trailer_items U8 (nothing 500 1000)) ≡ Some 476
last_block = refl
