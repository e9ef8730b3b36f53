use Rattle.std.proofs.Common.{sym}
use Rattle.fl_column.proofs.ConstantLaws.{constant_ranges}
use Rattle.fl_column.proofs.constant.ConstantArray.take_ranges.Goals as goal

pub returns : goal.returns
returns c =
    rw (constant_ranges c.args.self.now c.ptype-ptype.result c.args.ranges.now c.in_ok-total.total c.ptype-ptype.ensures (rw (← c.len.ensures.constant_items) c.in_ok-total.ensures.fit) (sym c.in_ok-total.ensures.total)) (rw c.with_len.ensures at c.decode.ensures)
