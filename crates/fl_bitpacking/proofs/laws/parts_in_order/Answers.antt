use Rattle.fl_bitpacking.proofs.Order.{parts_lend}
use Rattle.fl_bitpacking.proofs.laws.parts_in_order.Goals as goal

pub returns : goal.returns
returns c = parts_lend
