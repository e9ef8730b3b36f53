use Rattle.fl_bitpacking.proofs.Order.{blocks_lend}
use Rattle.fl_bitpacking.proofs.laws.blocks_in_order.Goals as goal

pub returns : goal.returns
returns c = blocks_lend
