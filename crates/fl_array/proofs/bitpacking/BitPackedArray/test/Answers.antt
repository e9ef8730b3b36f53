use Rattle.fl_array.proofs.BlockWidths.{read_column}
use Rattle.fl_array.proofs.bitpacking.BitPackedArray.test.Goals as goal

pub test-requires-clause-widths : goal.test-requires-clause-widths
test-requires-clause-widths c = rw c.packed_data.ensures (c.in_ok-widths.ensures.widths c.view.result c.view.ensures).sound

pub returns-clause-column : goal.returns-clause-column
returns-clause-column c =
    let of = c.in_ok-widths.ensures.widths c.view.result c.view.ensures in
    rw (← read_column c.args.self.now c.view.result of) (rw c.packed_data.ensures at c.test.ensures.column)

pub returns-clause-blocks : goal.returns-clause-blocks
returns-clause-blocks c =
    let of = c.in_ok-widths.ensures.widths c.view.result c.view.ensures in
    rw (← of.same) (rw c.packed_data.ensures at c.test.ensures.blocks)
