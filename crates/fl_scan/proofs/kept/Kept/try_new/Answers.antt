use Rattle.std.proofs.Common.{IsTrue, ℕ, sym}
use Rattle.std.proofs.Math.Path.{subst}
use Rattle.fl_types.specs.Validities.{covers}
use Rattle.fl_array.specs.Trees.{column}
use Rattle.fl_scan.proofs.KeptColumns.{kept_read, marks_read}
use Rattle.fl_scan.proofs.kept.Kept.try_new.Goals as goal

pub marks_of-requires : goal.marks_of-requires
marks_of-requires c = subst (λ (n : ℕ). IsTrue (covers c.in_ok-validity.validity n)) (sym c.requires) c.in_ok-validity.ensures.validity.covered

pub invariant_of-result : goal.invariant_of-result
invariant_of-result c =
    marks_read (column c.args.array.now) c.in_ok-reader.reader.column c.in_ok-validity.validity c.in_ok-marks.marks c.args.mask.now c.in_ok-reader.ensures c.in_ok-validity.ensures.validity c.requires c.in_ok-marks.ensures.covers c.in_ok-marks.ensures.marks

pub returns : goal.returns
returns c =
    kept_read (column c.args.array.now) c.in_ok-reader.reader.column c.in_ok-validity.validity c.in_ok-marks.marks c.args.mask.now c.in_ok-reader.ensures c.in_ok-validity.ensures.validity c.requires c.in_ok-marks.ensures.covers c.in_ok-marks.ensures.marks
