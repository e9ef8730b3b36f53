use Rattle.std.specs.Prelude.{⊤, Ok}
use Rattle.fl_file.specs.FileReading.{foot_of_reader}
use Rattle.flcol_c.proofs.FileLaws.{foot_given, foot_read, verdict_held, verdict_refused, verdict_unread}
use Rattle.flcol_c.proofs.files.verify.Goals as goal

pub returns-in_err-reader-clause-foot : goal.returns-in_err-reader-clause-foot
returns-in_err-reader-clause-foot c = foot_given c.args.bytes.now c.from_residual.result c.in_err-reader.field-0.0 c.from_residual.ensures.1 c.in_err-reader.ensures

pub returns-in_err-reader-clause-verdict : goal.returns-in_err-reader-clause-verdict
returns-in_err-reader-clause-verdict c = λ foot is. verdict_unread c.args.bytes.now foot c.from_residual.result c.in_err-reader.field-0.0 c.from_residual.ensures.1 c.in_err-reader.ensures is

pub returns-in_err-verify-clause-foot : goal.returns-in_err-verify-clause-foot
returns-in_err-verify-clause-foot c = foot_read c.args.bytes.now (foot_of_reader c.in_ok-reader.reader) c.from_residual-in_err-verify.result c.in_ok-reader.ensures.1.0

pub returns-in_err-verify-clause-verdict : goal.returns-in_err-verify-clause-verdict
returns-in_err-verify-clause-verdict c = λ foot is.
    verdict_refused c.args.bytes.now (foot_of_reader c.in_ok-reader.reader) foot c.in_err-verify.field-0.0 c.from_residual-in_err-verify.result c.in_ok-reader.ensures.1.0 is (c.in_err-verify.ensures.verdict c.args.bytes.now c.in_ok-reader.ensures.1.1) c.from_residual-in_err-verify.ensures.1

pub returns-clause-foot : goal.returns-clause-foot
returns-clause-foot c = foot_read {A = ⊤} c.args.bytes.now (foot_of_reader c.in_ok-reader.reader) (Ok tt) c.in_ok-reader.ensures.1.0

pub returns-clause-verdict : goal.returns-clause-verdict
returns-clause-verdict c = λ foot is. verdict_held c.args.bytes.now (foot_of_reader c.in_ok-reader.reader) foot c.in_ok-reader.ensures.1.0 is (c.in_ok-verify.ensures.verdict c.args.bytes.now c.in_ok-reader.ensures.1.1)
