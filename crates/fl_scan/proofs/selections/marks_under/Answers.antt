use Rattle.std.proofs.Common.{IsTrue, ℕ, sym}
use Rattle.std.proofs.Math.Path.{subst}
use Rattle.fl_types.specs.Validities.{covers}
use Rattle.fl_array.specs.Trees.{column}
use Rattle.fl_scan.proofs.PassingLaws.{marks_ok, passed_ok}
use Rattle.fl_scan.proofs.selections.marks_under.Goals as goal

pub marks_of-requires : goal.marks_of-requires
marks_of-requires c = subst (λ (n : ℕ). IsTrue (covers c.in_ok-validity.validity n)) (sym c.requires) c.in_ok-validity.ensures.validity.covered

pub returns-clause-marks : goal.returns-clause-marks
returns-clause-marks c = marks_ok (column c.args.array.now) c.in_ok-validity.validity c.args.mask.now c.marks_of.result c.in_ok-validity.ensures.validity c.requires c.marks_of.ensures.covers c.marks_of.ensures.marks

pub returns-clause-passing : goal.returns-clause-passing
returns-clause-passing c = passed_ok (column c.args.array.now) c.in_ok-validity.validity c.args.mask.now c.marks_of.result c.in_ok-validity.ensures.validity c.requires c.marks_of.ensures.marks
