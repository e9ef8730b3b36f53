use Rattle.std.proofs.Common.{Ok, Option, refl}
use Rattle.fl_file.specs.declared.statistics.Extremes.{Extremes}
use Rattle.fl_file.specs.FileReading.{foot_of_reader}
use Rattle.flcol_c.proofs.FileLaws.{foot_given, foot_read, held_by, held_given}
use Rattle.flcol_c.proofs.files.min_max_trusting.Goals as goal

pub returns-in_err-reader-clause-foot : goal.returns-in_err-reader-clause-foot
returns-in_err-reader-clause-foot c = foot_given c.args.bytes.now c.from_residual.result c.in_err-reader.field-0.0 c.from_residual.ensures.1 c.in_err-reader.ensures

pub returns-in_err-reader-clause-extremes : goal.returns-in_err-reader-clause-extremes
returns-in_err-reader-clause-extremes c = λ columns held. held_given c.args.bytes.now columns _ _ c.from_residual.result c.in_err-reader.field-0.0 c.from_residual.ensures.1 c.in_err-reader.ensures held

pub returns-clause-foot : goal.returns-clause-foot
returns-clause-foot c = foot_read {A = Option Extremes} c.args.bytes.now (foot_of_reader c.in_ok-reader.reader) (Ok c.min_max_trusting.result) c.in_ok-reader.ensures.1.0

pub returns-clause-extremes : goal.returns-clause-extremes
returns-clause-extremes c = λ columns held. (refl, c.min_max_trusting.ensures columns (held_by _ c.in_ok-reader.reader c.args.bytes.now columns c.in_ok-reader.ensures.1.0 c.in_ok-reader.ensures.1.1 held))
