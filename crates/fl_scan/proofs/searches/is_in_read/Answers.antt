use Rattle.std.proofs.Common.{IsTrue, Ok, map, sym}
use Rattle.std.proofs.Math.Path.{subst}
use Rattle.fl_types.specs.Refusals.{Answers}
use Rattle.fl_types.specs.Types.{has_ptype}
use Rattle.fl_types.specs.Values.{integer_of}
use Rattle.fl_column.specs.Columns.{Column, column_of_bools}
use Rattle.fl_column.specs.Queries.{tested}
use Rattle.fl_array.specs.Reads.{IsValidityOf}
use Rattle.fl_array.specs.Trees.{column}
use Rattle.fl_scan.specs.Membership.{is_one_of}
use Rattle.fl_scan.proofs.BlockLaws.{valid_marks}
use Rattle.fl_scan.proofs.MembershipLaws.{answers_are}
use Rattle.fl_scan.proofs.SourceLaws.{read_is}
use Rattle.fl_scan.proofs.searches.is_in_read.Goals as goal

pub keep_typed-requires-clause-typed : goal.keep_typed-requires-clause-typed
keep_typed-requires-clause-typed c =
    let same = read_is (column c.args.array.now) c.in_ok-reader.reader.column c.in_ok-reader.ensures in
    subst (λ (d : Column). IsTrue (has_ptype c.args.ptype d.dtype)) same c.requires.typed

pub keep_typed-requires-clause-marks : goal.keep_typed-requires-clause-marks
keep_typed-requires-clause-marks c =
    let d = c.in_ok-reader.reader.column in
    let same = read_is (column c.args.array.now) d c.in_ok-reader.ensures in
    valid_marks c.in_ok-validity.validity d (subst (λ (e : Column). IsValidityOf c.in_ok-validity.validity e) same c.in_ok-validity.ensures.validity)

pub returns : goal.returns
returns c =
    let d = c.in_ok-reader.reader.column in
    let same = read_is (column c.args.array.now) d c.in_ok-reader.ensures in
    let test = is_one_of (map integer_of c.args.list.now) in
    let valid = subst (λ (e : Column). IsValidityOf c.in_ok-validity.validity e) same c.in_ok-validity.ensures.validity in
    subst (λ (e : Column). Answers column_of_bools c.new.result (Ok (tested test e))) (sym same)
    (answers_are test c.in_ok-answers.answers c.in_ok-validity.validity d c.new.result valid c.in_ok-answers.ensures.marks c.new.ensures)
