-- What a reader ends as, once the items that it lent are no longer borrowed.
use Rattle.std.specs.Prelude.{[]}
use Rattle.std.specs.Borrow.{Fml, RattleType, MutBor, Array, follows}
use mir.Syntax.{named}
use Rattle.fl_bitpacking.specs.Readers.{Reader}
use Rattle.fl_bitpacking.specs.contracts.unpack_iter.UnpackedChunks.{the_row}
use Rattle.fl_bitpacking.specs.declared.bit_packed.BitCount as bits
use Rattle.fl_bitpacking.specs.declared.unpack_iter.unpacked_items.UnpackedItems.{UnpackedItems}

module _ (T S : RattleType) (g : bits.Ghosts T.Denot) where
  -- the reader ends as this, whatever is written to the items
  abbrev pub lends_items : MutBor Reader → Reader → UnpackedItems T.Denot → Fml
  lends_items reader after lent = follows (the_row (record { mir = named 1; lft = [] }) T S g) (Array T 1024) reader.ghost_name lent.block.ghost_name (λ _. after)
