use Rattle.std.proofs.Common.{◌∙◌, ap, length, subst, sym}
use Rattle.fl_types.specs.declared.mask.Mask.TheVariants.{Values}
use Rattle.fl_column.specs.Columns.{Column}
use Rattle.fl_array.specs.Reads.{IsValidityOf}
use Rattle.fl_array.specs.Trees.{column}
use Rattle.fl_ops.proofs.Answered.{decoded_is}
use Rattle.fl_ops.proofs.BlockLaws.{read_typed}
use Rattle.fl_ops.proofs.ReadLists.{filter_answered}
use Rattle.fl_ops.proofs.by_blocks.filter.filter.Goals as goal

pub filter_read-requires-clause-typed : goal.filter_read-requires-clause-typed
filter_read-requires-clause-typed c =
    let same = decoded_is (column c.args.array.now) c.in_ok-reader.reader.column c.in_ok-reader.ensures in
    read_typed (column c.args.array.now) c.in_ok-reader.reader.column c.in-Primitive.ptype c.in-Primitive.field-1 same (sym c.dtype.ensures ∙ c.in-Primitive.is)

pub filter_read-requires-clause-validity : goal.filter_read-requires-clause-validity
filter_read-requires-clause-validity c =
    let same = decoded_is (column c.args.array.now) c.in_ok-reader.reader.column c.in_ok-reader.ensures in
    subst (λ (d : Column). IsValidityOf c.in_ok-validity.validity d) same c.in_ok-validity.ensures.validity

pub filter_read-requires-clause-long : goal.filter_read-requires-clause-long
filter_read-requires-clause-long c =
    let same = decoded_is (column c.args.array.now) c.in_ok-reader.reader.column c.in_ok-reader.ensures in
    c.requires ∙ ap (λ (d : Column). length d.items) same

pub returns : goal.returns
returns c =
    filter_answered c.args.bits.now (column c.args.array.now) c.in_ok-reader.reader.column c.filter_read.result c.in_ok-reader.ensures c.requires c.filter_read.ensures
