use Rattle.std.proofs.Common.{refl, sym}
use Rattle.fl_bitpacking.specs.BlockLends.{blocks_left}
use Rattle.fl_bitpacking.proofs.Lent.{next_there}
use Rattle.fl_bitpacking.proofs.unpack_iter.bit_unpack_iterator.BitUnpackIterator.next.Goals as goal

pub returns-then-has_next : goal.returns-then-has_next
returns-then-has_next g c = (
  refl,
  record {
    after = tt;
    items = next_there g.T.NativePType.PTYPE (blocks_left c.args.self.now) _ (sym c.if-has_next.ensures) c.unpack_block.ensures.items;
  },
)
