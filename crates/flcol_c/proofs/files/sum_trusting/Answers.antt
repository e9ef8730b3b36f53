use Rattle.std.proofs.Common.{◌≡◌, ℤ, Ok, of_z, rules, subst, sym, to_z}
use Rattle.std.specs.Int.{w128}
use Rattle.flcol_c.specs.Files.{GivesSum}
use Rattle.fl_file.specs.FileReading.{foot_of_reader}
use Rattle.flcol_c.proofs.FileLaws.{foot_given, foot_read, held_by, sum_refused, sum_unread}
use Rattle.flcol_c.proofs.files.sum_trusting.Goals as goal

pub returns-in_err-reader-clause-foot : goal.returns-in_err-reader-clause-foot
returns-in_err-reader-clause-foot c = foot_given c.args.bytes.now c.from_residual.result c.in_err-reader.field-0.0 c.from_residual.ensures.1 c.in_err-reader.ensures

pub returns-in_err-reader-clause-sum : goal.returns-in_err-reader-clause-sum
returns-in_err-reader-clause-sum c = λ columns held. sum_unread c.args.bytes.now columns c.from_residual.result c.in_err-reader.field-0.0 c.from_residual.ensures.1 c.in_err-reader.ensures held

pub returns-in_err-sum-clause-sum : goal.returns-in_err-sum-clause-sum
returns-in_err-sum-clause-sum c = λ columns held.
    sum_refused columns c.in_err-sum.field-0.0 c.from_residual-in_err-sum.result (c.in_err-sum.ensures columns (held_by _ c.in_ok-reader.reader c.args.bytes.now columns c.in_ok-reader.ensures.1.0 c.in_ok-reader.ensures.1.1 held)) c.from_residual-in_err-sum.ensures.1

pub returns-in_err-sum-clause-foot : goal.returns-in_err-sum-clause-foot
returns-in_err-sum-clause-foot c = foot_read c.args.bytes.now (foot_of_reader c.in_ok-reader.reader) c.from_residual-in_err-sum.result c.in_ok-reader.ensures.1.0

pub returns-clause-sum : goal.returns-clause-sum
returns-clause-sum c = λ columns held.
    let same : to_z w128 (of_z w128 c.in_ok-sum.sum) ≡ c.in_ok-sum.sum = search rules in
    subst (λ (z : ℤ). GivesSum columns (Ok z)) (sym same) (c.in_ok-sum.ensures columns (held_by _ c.in_ok-reader.reader c.args.bytes.now columns c.in_ok-reader.ensures.1.0 c.in_ok-reader.ensures.1.1 held))

pub returns-clause-foot : goal.returns-clause-foot
returns-clause-foot c = foot_read {A = ℤ} c.args.bytes.now (foot_of_reader c.in_ok-reader.reader) (Ok c.in_ok-sum.sum) c.in_ok-reader.ensures.1.0
