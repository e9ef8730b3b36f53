-- How many bits items have, and the items that a width leaves out.
use Rattle.std.specs.Prelude.{◌==◌, ◌+◌, ◌^◌, ◌/◌, ℕ, ℤ, Bool, false, List, length, Option, Some, None, unwrap_or, nat_lt, find, count_by, slice_index, slice_index_or, int_lt, pos, if◌then◌else◌}
use Rattle.std.specs.List.{range_with_len}
use Rattle.fl_types.specs.declared.dtype.PType.{PType}
use Rattle.fl_types.specs.Bits.{tabulate}
use Rattle.fl_types.specs.Integers.{bits_of_type, pattern_of}
use Rattle.fl_patches.specs.PatchMaps.{values_in}

-- ---- bits
-- the bits of a pattern: the least n, at most 64, with pattern < 2 ^ n
unfoldable pub bit_count : ℕ → ℕ
bit_count pattern = unwrap_or (find (λ n. nat_lt pattern (2 ^ n)) (range_with_len 0 64)) 64

-- the bits of an item's pattern, 0 of a null
abbrev pub bits_of_item : PType → Option ℤ → ℕ
bits_of_item ptype None = 0
bits_of_item ptype (Some z) = bit_count (pattern_of ptype z)

-- how many of the items have this many bits
unfoldable pub count_with_bits : PType → List (Option ℤ) → ℕ → ℕ
count_with_bits ptype items bits = count_by (λ item. bits_of_item ptype item == bits) items

-- the histogram: entry b, from 0 to the type's bits, counts the items with b bits
abbrev pub histogram_of : PType → List (Option ℤ) → List ℕ
histogram_of ptype items = tabulate (count_with_bits ptype items) (bits_of_type ptype + 1)

-- an item is there and is negative
abbrev pub is_negative : Option ℤ → Bool
is_negative None = false
is_negative (Some z) = int_lt z (pos 0)

-- ---- exceptions
-- the item has more bits than a width
abbrev pub is_exception : PType → ℕ → Option ℤ → Bool
is_exception ptype width item = nat_lt width (bits_of_item ptype item)

-- the item where it is an exception at a width, else null
abbrev pub exception : PType → ℕ → Option ℤ → Option ℤ
exception ptype width item = if is_exception ptype width item then item else None

-- each item where it is an exception at the width of its place, else null
unfoldable pub exceptions_of : PType → (ℕ → ℕ) → List (Option ℤ) → List (Option ℤ)
exceptions_of ptype width items = tabulate (λ i. exception ptype (width i) (slice_index_or items i None)) (length items)

-- how many of the items are exceptions at the width of their place
abbrev pub exception_count : PType → (ℕ → ℕ) → List (Option ℤ) → ℕ
exception_count ptype width items = length (values_in (exceptions_of ptype width items))

-- one width for every place
abbrev pub one_width : ℕ → ℕ → ℕ
one_width width i = width

-- the width of a place, where each block of 1024 places has its own
abbrev pub width_of_block : List ℕ → ℕ → ℕ
width_of_block widths i = slice_index widths (i / 1024)
