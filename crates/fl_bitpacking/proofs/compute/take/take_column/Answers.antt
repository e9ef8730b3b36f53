use Rattle.std.proofs.Common.{subst, sym}
use Rattle.std.proofs.lemmas.Result.{err_from_is_err_and}
use Rattle.fl_column.specs.Columns.{column_of_primitive}
use Rattle.fl_bitpacking.specs.Blocks.{blocks_of}
use Rattle.fl_bitpacking.specs.Parts.{parts_of}
use Rattle.fl_bitpacking.specs.Taken.{ArePositions}
use Rattle.fl_bitpacking.proofs.TakenColumns.{refused_take}
use Rattle.fl_bitpacking.proofs.TakenLaws.{named_in}
use Rattle.fl_bitpacking.proofs.compute.take.take_column.Goals as goal

pub take_at-requires-clause-positions : goal.take_at-requires-clause-positions
take_at-requires-clause-positions c =
    let items = (column_of_primitive c.args.indices.now).items in
    subst (ArePositions c.args.column.now.len items) (sym c.deref.ensures.value) (named_in c.args.column.now.len items c.in_ok-positions.positions.items c.in_ok-positions.ensures)

pub returns-in_err-positions-clause-column : goal.returns-in_err-positions-clause-column
returns-in_err-positions-clause-column c =
    let refused = err_from_is_err_and c.from_residual.result c.from_residual.ensures.1 in
    rw (refused.1, refused.2) (refused_take c.in_err-positions.field-0.0 (parts_of c.args.column.now) (blocks_of c.args.widths) c.args.indices.now c.in_err-positions.ensures)
