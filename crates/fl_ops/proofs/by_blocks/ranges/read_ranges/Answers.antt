use Rattle.std.proofs.Common.{◌≡◌, ◌∙◌, IsTrue, Ok, length, subst, sym}
use Rattle.std.specs.List.{list_all}
use Rattle.fl_types.specs.Refusals.{Answers}
use Rattle.fl_types.specs.Types.{has_ptype}
use Rattle.fl_column.specs.Columns.{Column, column_of_primitive}
use Rattle.fl_column.specs.Operations.{range_fits, ranges_of}
use Rattle.fl_array.specs.Reads.{IsValidityOf}
use Rattle.fl_array.specs.Trees.{column}
use Rattle.fl_ops.proofs.Answered.{decoded_is}
use Rattle.fl_ops.proofs.by_blocks.ranges.read_ranges.Goals as goal

pub ranges_read-requires-clause-typed : goal.ranges_read-requires-clause-typed
ranges_read-requires-clause-typed c =
    let same = decoded_is (column c.args.array.now) c.in_ok-reader.reader.column c.in_ok-reader.ensures in
    subst (λ (d : Column). IsTrue (has_ptype c.args.ptype d.dtype)) same c.requires.typed

pub ranges_read-requires-clause-validity : goal.ranges_read-requires-clause-validity
ranges_read-requires-clause-validity c =
    let same = decoded_is (column c.args.array.now) c.in_ok-reader.reader.column c.in_ok-reader.ensures in
    subst (λ (d : Column). IsValidityOf c.in_ok-validity.validity d) same c.in_ok-validity.ensures.validity

pub ranges_read-requires-clause-ranges : goal.ranges_read-requires-clause-ranges
ranges_read-requires-clause-ranges c =
    let same = decoded_is (column c.args.array.now) c.in_ok-reader.reader.column c.in_ok-reader.ensures in
    subst (λ (d : Column). IsTrue (list_all (range_fits (length d.items)) c.args.ranges.now)) same c.requires.ranges

pub returns : goal.returns
returns c =
    let same = decoded_is (column c.args.array.now) c.in_ok-reader.reader.column c.in_ok-reader.ensures in
    subst (λ (d : Column). Answers column_of_primitive c.ranges_read.result (Ok (ranges_of c.args.ranges.now d))) (sym same) c.ranges_read.ensures
