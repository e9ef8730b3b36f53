-- What an iterator over whole blocks has left, and what it ends as, once the block that it lent is no longer borrowed.
use Rattle.std.specs.Prelude.{[], ◌+◌, ◌*◌, List, Option, length, nat_le, if◌then◌else◌}
use Rattle.std.specs.Borrow.{Fml, RattleType, MutBor, Array, Lends, LendsIf}
use mir.Syntax.{named}
use Rattle.fl_bitpacking.specs.WholeBlocks.{WholeBlocks, one_more}
use Rattle.fl_bitpacking.specs.contracts.unpack_iter.bit_unpack_iterator.BitUnpackIterator.{the_row}
use Rattle.fl_bitpacking.specs.declared.unpack_iter.bit_unpack_iterator.BitUnpackIterator.{BitUnpackIterator}
use Rattle.fl_bitpacking.specs.declared.bit_packed.BitCount as bits

-- the blocks that an iterator has left, none where the bytes do not hold them all
abbrev pub blocks_left : {T : Type 0} → BitUnpackIterator T → WholeBlocks
blocks_left b = record { packed = b.packed.now; bit_width = b.block.bit_width; next = b.next; end = if nat_le (128 * b.block.bit_width * b.num_chunks) (length b.packed.now) then b.num_chunks else b.next; work = b.work.now }

-- the next block is gone and counted, and these are its items
abbrev pub without_block : {T : Type 0} → BitUnpackIterator T → List T → BitUnpackIterator T
without_block b items = record b { block = record b.block { items = items }; next = b.next + 1; work = record b.work { now = one_more b.work.now } }

module _ (T : RattleType) (g : bits.Ghosts T.Denot) where
  -- the next block is gone and counted, whatever is written to its items
  abbrev pub lends_block : MutBor (BitUnpackIterator T.Denot) → MutBor (List T.Denot) → Fml
  lends_block b lent = Lends (the_row (record { mir = named 1; lft = [] }) T g) (Array T 1024) b lent (without_block b.now)

  -- the same where there is one
  abbrev pub lends_next : MutBor (BitUnpackIterator T.Denot) → Option (MutBor (List T.Denot)) → Fml
  lends_next b lent = LendsIf (the_row (record { mir = named 1; lft = [] }) T g) (Array T 1024) b lent (without_block b.now) b.now
