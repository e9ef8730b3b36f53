-- What an unpacked block ends as, once its items are no longer borrowed.
use Rattle.std.specs.Prelude.{List}
use Rattle.std.specs.Borrow.{Fml, RattleType, MutBor, Array, Lends}
use Rattle.fl_bitpacking.specs.UnpackedBlocks.{BlockItems}
use Rattle.fl_bitpacking.specs.contracts.unpack_iter.unpacked_block.UnpackedBlock.{the_row}
use Rattle.fl_bitpacking.specs.declared.bit_packed.BitCount as bits

module _ (T : RattleType) (g : bits.Ghosts T.Denot) where
  -- its items are what is written to them
  abbrev pub lends_room : MutBor (BlockItems T.Denot) → MutBor (List T.Denot) → Fml
  lends_room block lent = Lends (the_row T g) (Array T 1024) block lent (λ w. record block.now { items = w })
