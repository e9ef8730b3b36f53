use Rattle.fl_array.proofs.BlockWidths.{read_column}
use Rattle.fl_array.proofs.bitpacking.BitPackedArray.filter_counted.Goals as goal

pub filter-requires-clause-widths : goal.filter-requires-clause-widths
filter-requires-clause-widths c = rw c.packed_data.ensures (c.in_ok-widths.ensures.widths c.view.result c.view.ensures).sound

pub returns-clause-column : goal.returns-clause-column
returns-clause-column c =
    let of = c.in_ok-widths.ensures.widths c.view.result c.view.ensures in
    rw (← read_column c.args.self.now c.view.result of) (rw c.packed_data.ensures at c.in_ok-kept.ensures.column)
