use Rattle.std.proofs.Common.{◌≡◌, map}
use Rattle.std.proofs.Math.Path.{subst}
use Rattle.std.specs.Prelude.{IfOk}
use Rattle.fl_bitpacking.specs.RangeTests.{passes}
use Rattle.fl_scan.proofs.PassingLaws.{kept_column, passing_are_marks}
use Rattle.fl_scan.proofs.filtering.filter_marked.Goals as goal

pub items_at-requires-clause-marks : goal.items_at-requires-clause-marks
items_at-requires-clause-marks g c = passing_are_marks (passes c.args.range) c.args.marks.now c.args.reader.now.column c.in_ok-bits.bits c.requires.marks c.in_ok-bits.ensures.marks

pub returns-clause-items : goal.returns-clause-items
returns-clause-items g c =
    subst (λ ys. IfOk c.items_at.result (λ taken. map g.T.Number.value taken.items ≡ ys)) (kept_column (passes c.args.range) c.args.marks.now c.args.reader.now.column c.in_ok-bits.bits c.requires.marks c.in_ok-bits.ensures.marks) c.items_at.ensures.items
