use Rattle.std.proofs.Common.{subst}
use Rattle.fl_types.specs.Refusals.{Answers}
use Rattle.fl_column.specs.Columns.{column_of_primitive}
use Rattle.fl_column.specs.Operations.{take_column}
use Rattle.fl_bitpacking.specs.Blocks.{blocks_of}
use Rattle.fl_bitpacking.specs.Columns.{BitPackedParts, column_of_packed}
use Rattle.fl_bitpacking.proofs.packed_data.PackedData.take.Goals as goal

pub returns-clause-column : goal.returns-clause-column
returns-clause-column c =
    let by : BitPackedParts → Type 0 = λ parts. Answers column_of_primitive c.take_column.result (take_column (column_of_primitive c.args.indices.now) (column_of_packed parts (blocks_of c.args.widths))) in
    subst by c.column.ensures.parts c.take_column.ensures.column
