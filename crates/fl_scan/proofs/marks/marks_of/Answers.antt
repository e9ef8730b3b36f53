use Rattle.fl_types.specs.Validities.{is_valid_at}
use Rattle.fl_scan.proofs.MarkLaws.{all_false_marks, all_true_marks}
use Rattle.fl_scan.proofs.marks.marks_of.Goals as goal

pub returns-in-AllTrue-clause-marks : goal.returns-in-AllTrue-clause-marks
returns-in-AllTrue-clause-marks c = λ i h. all_true_marks c.args.mask.now c.in-AllTrue.field-0 i (is_valid_at c.args.validity i) c.in-AllTrue.is h

pub returns-in-AllFalse-clause-marks : goal.returns-in-AllFalse-clause-marks
returns-in-AllFalse-clause-marks c = λ i h. all_false_marks c.args.mask.now c.in-AllFalse.field-0 i (is_valid_at c.args.validity i) c.in-AllFalse.is h
