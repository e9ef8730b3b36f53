use Rattle.fl_file.specs.FileReading.{foot_of_reader}
use Rattle.flcol_c.proofs.FileLaws.{count_given, foot_given, foot_read, held_by, held_given, scan_refused}
use Rattle.flcol_c.proofs.files.count_trusting.Goals as goal

pub returns-in_err-reader-clause-foot : goal.returns-in_err-reader-clause-foot
returns-in_err-reader-clause-foot c = foot_given c.args.bytes.now c.from_residual.result c.in_err-reader.field-0.0 c.from_residual.ensures.1 c.in_err-reader.ensures

pub returns-in_err-reader-clause-counted : goal.returns-in_err-reader-clause-counted
returns-in_err-reader-clause-counted c = λ columns held. held_given c.args.bytes.now columns _ _ c.from_residual.result c.in_err-reader.field-0.0 c.from_residual.ensures.1 c.in_err-reader.ensures held

pub returns-in_err-count-clause-foot : goal.returns-in_err-count-clause-foot
returns-in_err-count-clause-foot c = foot_read c.args.bytes.now (foot_of_reader c.in_ok-reader.reader) c.from_residual-in_err-count.result c.in_ok-reader.ensures.1.0

pub returns-in_err-count-clause-counted : goal.returns-in_err-count-clause-counted
returns-in_err-count-clause-counted c = λ columns held.
    scan_refused _ _ _ c.in_err-count.field-0.0 c.from_residual-in_err-count.result (c.in_err-count.ensures.count columns (held_by _ c.in_ok-reader.reader c.args.bytes.now columns c.in_ok-reader.ensures.1.0 c.in_ok-reader.ensures.1.1 held)) c.from_residual-in_err-count.ensures.1

pub returns-clause-foot : goal.returns-clause-foot
returns-clause-foot c = foot_read c.args.bytes.now (foot_of_reader c.in_ok-reader.reader) c.word_of.result c.in_ok-reader.ensures.1.0

pub returns-clause-counted : goal.returns-clause-counted
returns-clause-counted c = λ columns held.
    count_given _ _ c.word_of.result (c.in_ok-count.ensures.count columns (held_by _ c.in_ok-reader.reader c.args.bytes.now columns c.in_ok-reader.ensures.1.0 c.in_ok-reader.ensures.1.1 held)) c.word_of.ensures
