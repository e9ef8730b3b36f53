use Rattle.std.proofs.Common.{◌≡◌, ℕ, subst}
use Rattle.fl_file.specs.FileReading.{foot_of_reader}
use Rattle.flcol_c.specs.Feet.{word_fault}
use Rattle.flcol_c.specs.Statuses.{Gives}
use Rattle.flcol_c.proofs.FileLaws.{foot_given, foot_read, held_by, held_given}
use Rattle.flcol_c.proofs.files.null_count_trusting.Goals as goal

pub returns-in_err-reader-clause-foot : goal.returns-in_err-reader-clause-foot
returns-in_err-reader-clause-foot c = foot_given c.args.bytes.now c.from_residual.result c.in_err-reader.field-0.0 c.from_residual.ensures.1 c.in_err-reader.ensures

pub returns-in_err-reader-clause-count : goal.returns-in_err-reader-clause-count
returns-in_err-reader-clause-count c = λ columns held. held_given c.args.bytes.now columns _ _ c.from_residual.result c.in_err-reader.field-0.0 c.from_residual.ensures.1 c.in_err-reader.ensures held

pub returns-clause-foot : goal.returns-clause-foot
returns-clause-foot c = foot_read c.args.bytes.now (foot_of_reader c.in_ok-reader.reader) c.word_of.result c.in_ok-reader.ensures.1.0

pub returns-clause-count : goal.returns-clause-count
returns-clause-count c = λ columns held.
    let is = c.null_count_trusting.ensures columns (held_by _ c.in_ok-reader.reader c.args.bytes.now columns c.in_ok-reader.ensures.1.0 c.in_ok-reader.ensures.1.1 held) in
    subst (λ (k : ℕ). Gives (word_fault k) (λ m. m ≡ k) c.word_of.result) is c.word_of.ensures
