-- Blocks of one width that are unpacked one after the other.
use Rattle.std.specs.Prelude.{◌+◌, ◌-◌, ◌*◌, ℕ, ℤ, List, Option, Some, None, nat_lt, min, if◌then◌else◌}
use Rattle.fastlanes.specs.Counts.{Counts}
use Rattle.fl_types.specs.declared.dtype.PType.{PType}
use Rattle.fl_types.specs.Bits.{tabulate}
use Rattle.fl_bitpacking.specs.Blocks.{global_blocks, item_of_blocks}

-- blocks of which those from the next one up to the end are still to be unpacked, and what was unpacked so far
pub record WholeBlocks : Type 0 where
  pub packed : List ℕ
  pub bit_width : ℕ
  pub next : ℕ
  pub end : ℕ
  pub work : Counts

-- this many items of blocks of one width, from a position on
abbrev pub block_items_at : PType → ℕ → List ℕ → ℕ → ℕ → List ℤ
block_items_at ptype bit_width packed from count = tabulate (λ k. item_of_blocks ptype (global_blocks bit_width) packed (from + k)) count

-- the counts after one more block is unpacked
abbrev pub one_more : Counts → Counts
one_more work = record work { blocks = min (work.blocks + 1) 18446744073709551615 }

-- the items of the next block, if there is one
abbrev pub next_items : PType → WholeBlocks → Option (List ℤ)
next_items ptype b = if nat_lt b.next b.end then Some (block_items_at ptype b.bit_width b.packed (1024 * b.next) 1024) else None

-- the blocks after the next one is unpacked
abbrev pub without_next : WholeBlocks → WholeBlocks
without_next b = record b { next = b.next + 1; work = one_more b.work }

-- the blocks after the next one, if there is one
abbrev pub after_next : WholeBlocks → WholeBlocks
after_next b = if nat_lt b.next b.end then without_next b else b

-- the items of all blocks that are still to be unpacked
abbrev pub rest_items : PType → WholeBlocks → List ℤ
rest_items ptype b = block_items_at ptype b.bit_width b.packed (1024 * b.next) (1024 * (b.end - b.next))
