-- What a reader that unpacks by the kernels ends as, once what it lent is no longer borrowed.
use Rattle.std.specs.Prelude.{[]}
use Rattle.std.specs.Borrow.{Fml, RattleType, MutBor, Array, follows}
use mir.Syntax.{named}
use Rattle.fastlanes.specs.contracts.counts.Work.{the_row as work_row}
use Rattle.fl_bitpacking.specs.Readers.{Reader}
use Rattle.fl_bitpacking.specs.contracts.unpack_iter.bit_unpacked_chunks.BitUnpackedChunks.{the_row}
use Rattle.fl_bitpacking.specs.declared.bit_packed.BitCount as bits
use Rattle.fl_bitpacking.specs.declared.unpack_iter.bit_unpack_iterator.BitUnpackIterator.{BitUnpackIterator}
use Rattle.fl_bitpacking.specs.declared.unpack_iter.unpacked_items.UnpackedItems.{UnpackedItems}

module _ (T : RattleType) (g : bits.Ghosts T.Denot) where
  -- the reader ends as this, whatever is written to the items
  abbrev pub lends_chunk_items : MutBor Reader → Reader → UnpackedItems T.Denot → Fml
  lends_chunk_items reader after lent = follows (the_row (record { mir = named 1; lft = [] }) T g) (Array T 1024) reader.ghost_name lent.block.ghost_name (λ _. after)

  -- the reader ends with the counts that the iterator ends with, and is the same otherwise
  abbrev pub lends_count : MutBor Reader → BitUnpackIterator T.Denot → Fml
  lends_count reader lent = follows (the_row (record { mir = named 1; lft = [] }) T g) work_row reader.ghost_name lent.work.ghost_name (λ w. record reader.now { work = w })
