use Rattle.fl_array.proofs.BlockWidths.{read_column}
use Rattle.fl_array.proofs.bitpacking.BitPackedArray.decode.Goals as goal

pub decode-requires : goal.decode-requires
decode-requires c = rw c.packed_data.ensures (c.in_ok-widths.ensures.widths c.view.result c.view.ensures).sound

pub returns-clause-column : goal.returns-clause-column
returns-clause-column c =
    let of = c.in_ok-widths.ensures.widths c.view.result c.view.ensures in
    rw (← read_column c.args.self.now c.view.result of) (rw c.packed_data.ensures at c.decode.ensures.column)
