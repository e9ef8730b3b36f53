-- Reading a packed column block by block.
use Rattle.std.specs.Prelude.{◌≡◌, ◌==◌, ◌+◌, ◌*◌, ◌^◌, ◌<◌, ◌≤◌, ℕ, List, length, not, nat_le, nat_lt, if◌then◌else◌, Result, Ok, Err}
use Rattle.fastlanes.specs.Counts.{Counts}
use Rattle.fl_types.specs.declared.error.FastLanesError.{FastLanesError}
use Rattle.fl_types.specs.declared.error.FastLanesError.TheVariants.{OffsetTooLarge, LengthOverflow, PackedLength}
use Rattle.fl_column.specs.Chunks.{chunk_count}
use Rattle.std.specs.Prelude.{ℤ, ◌-◌, ◌/◌, ◌%◌, ◌&&◌, ◌||◌, Bool, min, Option, Some, None, unwrap_or, ◌++◌, []}
use Rattle.fl_types.specs.declared.dtype.PType.{PType}
use Rattle.fl_bitpacking.specs.WholeBlocks.{WholeBlocks, block_items_at, one_more, rest_items}

-- the packed bytes of a column of one width, which of its items are read, and what was unpacked so far
pub record Reader : Type 0 where
  pub packed : List ℕ
  pub bit_width : ℕ
  pub offset : ℕ
  pub len : ℕ
  pub work : Counts

-- how many blocks hold the items
abbrev pub blocks_read : Reader → ℕ
blocks_read r = chunk_count (r.offset + r.len)

-- a reader of these parts that has unpacked nothing, or why there is none
abbrev pub new_reader : List ℕ → ℕ → ℕ → ℕ → Result Reader FastLanesError
new_reader packed bit_width offset len =
    if nat_le 1024 offset then Err OffsetTooLarge
    else if nat_le (2 ^ 64) (1024 * chunk_count (offset + len)) then Err LengthOverflow
    else if not (length packed == 128 * bit_width * chunk_count (offset + len)) then Err PackedLength
    else Ok (record { packed = packed; bit_width = bit_width; offset = offset; len = len; work = record { blocks = 0; words = 0 } })

-- the parts of a reader of a type of this many bits
pub record IsReader (bits : ℕ) (packed : List ℕ) (bit_width offset len : ℕ) : Type 0 where
  pub narrow : bit_width ≤ bits
  pub inside : offset < 1024
  pub few : offset + len < 2 ^ 64
  pub whole : length packed ≡ 128 * bit_width * chunk_count (offset + len)

-- the reader after one more block is unpacked
abbrev pub unpacked_one : Reader → Reader
unpacked_one r = record r { work = one_more r.work }

-- the first block of this many items from an offset on lends its items by itself: it is cut in front, or the only one
abbrev pub lends_first : ℕ → ℕ → Bool
lends_first offset len = nat_lt 0 offset || (chunk_count (offset + len) == 1)

-- the last block lends its items by itself: it is cut behind, and not the only one
abbrev pub lends_last : ℕ → ℕ → Bool
lends_last offset len = nat_lt 1 (chunk_count (offset + len)) && nat_lt 0 ((offset + len) % 1024)

-- the same of a reader's first block
abbrev pub has_initial : Reader → Bool
has_initial r = lends_first r.offset r.len

-- the same of a reader's last block
abbrev pub has_trailer : Reader → Bool
has_trailer r = lends_last r.offset r.len

-- the items that the first block lends by itself
abbrev pub initial_items : PType → Reader → Option (List ℤ)
initial_items ptype r = if has_initial r then Some (block_items_at ptype r.bit_width r.packed r.offset (min r.len (1024 - r.offset))) else None

-- the items that the last block lends by itself
abbrev pub trailer_items : PType → Reader → Option (List ℤ)
trailer_items ptype r =
    if has_trailer r then Some (block_items_at ptype r.bit_width r.packed (1024 * ((r.offset + r.len) / 1024)) ((r.offset + r.len) % 1024)) else None

-- the reader after the first block lent its items, if it does so
abbrev pub after_initial : Reader → Reader
after_initial r = if has_initial r then unpacked_one r else r

-- the reader after the last block lent its items, if it does so
abbrev pub after_trailer : Reader → Reader
after_trailer r = if has_trailer r then unpacked_one r else r

-- the blocks that neither the first nor the last one lends by itself, beside what was unpacked so far
abbrev pub whole_blocks : Reader → WholeBlocks
whole_blocks r = record { packed = r.packed; bit_width = r.bit_width; next = if has_initial r then 1 else 0; end = blocks_read r - (if has_trailer r then 1 else 0); work = r.work }

-- the items that the first block, the whole blocks and the last block lend, one after the other
abbrev pub items_in_parts : PType → Reader → List ℤ
items_in_parts ptype r = unwrap_or (initial_items ptype r) [] ++ (rest_items ptype (whole_blocks r) ++ unwrap_or (trailer_items ptype r) [])
