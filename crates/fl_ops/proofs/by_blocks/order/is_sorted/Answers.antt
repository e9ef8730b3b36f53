use Rattle.std.proofs.Common.{◌∙◌, subst, sym}
use Rattle.fl_column.specs.Columns.{Column}
use Rattle.fl_array.specs.Reads.{IsValidityOf}
use Rattle.fl_array.specs.Trees.{column}
use Rattle.fl_ops.proofs.Answered.{decoded_is}
use Rattle.fl_ops.proofs.BlockLaws.{order_answered, read_typed}
use Rattle.fl_ops.proofs.by_blocks.order.is_sorted.Goals as goal

pub is_sorted_read-requires-clause-typed : goal.is_sorted_read-requires-clause-typed
is_sorted_read-requires-clause-typed c =
    let same = decoded_is (column c.args.array.now) c.in_ok-reader.reader.column c.in_ok-reader.ensures in
    read_typed (column c.args.array.now) c.in_ok-reader.reader.column c.in-Primitive.ptype c.in-Primitive.field-1 same (sym c.dtype.ensures ∙ c.in-Primitive.is)

pub is_sorted_read-requires-clause-validity : goal.is_sorted_read-requires-clause-validity
is_sorted_read-requires-clause-validity c =
    let same = decoded_is (column c.args.array.now) c.in_ok-reader.reader.column c.in_ok-reader.ensures in
    subst (λ (d : Column). IsValidityOf c.in_ok-validity.validity d) same c.in_ok-validity.ensures.validity

pub returns : goal.returns
returns c =
    let same = decoded_is (column c.args.array.now) c.in_ok-reader.reader.column c.in_ok-reader.ensures in
    sym (order_answered c.args.strict c.is_sorted_read.result (column c.args.array.now) c.in_ok-reader.reader.column c.in_ok-reader.ensures same c.is_sorted_read.ensures)
