use Rattle.std.proofs.Common.{IsTrue, Ok, ◌∙◌, ap, sym}
use Rattle.std.proofs.Math.Path.{subst}
use Rattle.fl_types.specs.Types.{has_ptype}
use Rattle.fl_column.specs.Columns.{Column}
use Rattle.fl_bitpacking.specs.RangeTests.{passes}
use Rattle.fl_array.specs.Trees.{column}
use Rattle.fl_scan.specs.Blocks.{Marks}
use Rattle.fl_scan.specs.Selections.{passing_marks}
use Rattle.fl_scan.proofs.SourceLaws.{read_is}
use Rattle.fl_scan.proofs.selections.passed.Goals as goal

pub keep_typed-requires-clause-typed : goal.keep_typed-requires-clause-typed
keep_typed-requires-clause-typed c =
    let same = read_is (column c.args.array.now) c.in_ok-reader.reader.column c.in_ok-reader.ensures in
    subst (λ (d : Column). IsTrue (has_ptype c.args.ptype d.dtype)) same c.requires.typed

pub keep_typed-requires-clause-marks : goal.keep_typed-requires-clause-marks
keep_typed-requires-clause-marks c =
    let same = read_is (column c.args.array.now) c.in_ok-reader.reader.column c.in_ok-reader.ensures in
    subst (λ (d : Column). Marks c.in_ok-marks.marks d) same c.in_ok-marks.ensures.marks

pub returns : goal.returns
returns c =
    let same = read_is (column c.args.array.now) c.in_ok-reader.reader.column c.in_ok-reader.ensures in
    let test = passes c.args.range in
    ap (λ b. Ok b) (sym (c.in_ok-bits.ensures.marks ∙ (ap (passing_marks test c.in_ok-marks.marks) (sym same) ∙ c.in_ok-marks.ensures.passing test)))
