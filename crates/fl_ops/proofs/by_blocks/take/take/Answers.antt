use Rattle.std.proofs.Common.{◌≡◌, ◌∙◌, ℕ, ap, false, length, subst, sym, true}
use Rattle.std.specs.List.{list_all}
use Rattle.fl_column.specs.Columns.{Column, column_of_primitive}
use Rattle.fl_column.specs.Operations.{is_in_range}
use Rattle.fl_array.specs.Reads.{IsValidityOf}
use Rattle.fl_array.specs.Trees.{column}
use Rattle.fl_ops.proofs.Answered.{decoded_is}
use Rattle.fl_ops.proofs.BlockLaws.{read_typed}
use Rattle.fl_ops.proofs.PickedItems.{take_answered, take_refused}
use Rattle.fl_ops.proofs.by_blocks.take.take.Goals as goal

pub returns-then-not-are_in_range : goal.returns-then-not-are_in_range
returns-then-not-are_in_range c =
    let d = column c.args.array.now in
    let items = (column_of_primitive c.args.indices.now).items in
    let range = subst (λ (n : ℕ). list_all (is_in_range n) items ≡ false) c.len.ensures (sym c.if-not-are_in_range.ensures) in
    take_refused c.args.indices.now d c.in-Primitive.ptype c.in-Primitive.field-1 (sym c.dtype.ensures ∙ c.in-Primitive.is) range

pub take_read-requires-clause-typed : goal.take_read-requires-clause-typed
take_read-requires-clause-typed c =
    let same = decoded_is (column c.args.array.now) c.in_ok-reader.reader.column c.in_ok-reader.ensures in
    read_typed (column c.args.array.now) c.in_ok-reader.reader.column c.in-Primitive.ptype c.in-Primitive.field-1 same (sym c.dtype.ensures ∙ c.in-Primitive.is)

pub take_read-requires-clause-validity : goal.take_read-requires-clause-validity
take_read-requires-clause-validity c =
    let same = decoded_is (column c.args.array.now) c.in_ok-reader.reader.column c.in_ok-reader.ensures in
    subst (λ (d : Column). IsValidityOf c.in_ok-validity.validity d) same c.in_ok-validity.ensures.validity

pub take_read-requires-clause-range : goal.take_read-requires-clause-range
take_read-requires-clause-range c =
    let items = (column_of_primitive c.args.indices.now).items in
    let same = decoded_is (column c.args.array.now) c.in_ok-reader.reader.column c.in_ok-reader.ensures in
    subst (λ (n : ℕ). list_all (is_in_range n) items ≡ true) (c.len.ensures ∙ ap (λ (d : Column). length d.items) same) (sym c.if-not-are_in_range.ensures)

pub returns : goal.returns
returns c =
    let d = column c.args.array.now in
    let items = (column_of_primitive c.args.indices.now).items in
    let range = subst (λ (n : ℕ). list_all (is_in_range n) items ≡ true) c.len.ensures (sym c.if-not-are_in_range.ensures) in
    take_answered c.args.indices.now d c.in_ok-reader.reader.column c.take_read.result c.in_ok-reader.ensures range c.take_read.ensures
