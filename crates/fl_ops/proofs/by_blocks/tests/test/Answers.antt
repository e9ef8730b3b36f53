use Rattle.std.proofs.Common.{◌≡◌, ◌∙◌, Ok, refl, subst, sym}
use Rattle.fl_types.specs.Refusals.{Answers}
use Rattle.fl_types.specs.declared.dtype.PType.{PType}
use Rattle.fl_column.specs.Columns.{Column, column_of_bools, ptype_of_column}
use Rattle.fl_column.specs.Queries.{tested}
use Rattle.fl_bitpacking.specs.RangeTests.{IsTestOf, passes}
use Rattle.fl_array.specs.Reads.{IsValidityOf}
use Rattle.fl_array.specs.Trees.{column}
use Rattle.fl_ops.proofs.Answered.{decoded_is}
use Rattle.fl_ops.proofs.BlockLaws.{read_typed}
use Rattle.fl_ops.proofs.TestedLists.{answers_are}
use Rattle.fl_ops.proofs.by_blocks.tests.test.Goals as goal

pub test_read-requires-clause-typed : goal.test_read-requires-clause-typed
test_read-requires-clause-typed c =
    let same = decoded_is (column c.args.array.now) c.in_ok-reader.reader.column c.in_ok-reader.ensures in
    read_typed (column c.args.array.now) c.in_ok-reader.reader.column c.in-Primitive.ptype c.in-Primitive.field-1 same (sym c.dtype.ensures ∙ c.in-Primitive.is)

pub test_read-requires-clause-test : goal.test_read-requires-clause-test
test_read-requires-clause-test c =
    let typed = sym c.dtype.ensures ∙ c.in-Primitive.is in
    let is : ptype_of_column (column c.args.array.now) ≡ c.in-Primitive.ptype = rw typed refl in
    subst (λ (p : PType). IsTestOf p c.args.range) is c.requires.test

pub returns : goal.returns
returns c =
    let same = decoded_is (column c.args.array.now) c.in_ok-reader.reader.column c.in_ok-reader.ensures in
    let d = c.in_ok-reader.reader.column in
    let valid = subst (λ (e : Column). IsValidityOf c.in_ok-validity.validity e) same c.in_ok-validity.ensures.validity in
    subst (λ (e : Column). Answers column_of_bools c.new.result (Ok (tested (passes c.args.range) e))) (sym same)
    (answers_are (passes c.args.range) c.in_ok-bits.bits c.in_ok-validity.validity d c.new.result valid c.in_ok-bits.ensures.answers c.new.ensures)
