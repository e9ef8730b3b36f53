use Rattle.fl_codec.specs.Parts.{run_parts}
use Rattle.fl_array.proofs.EncodedRLE.{ok_is}
use Rattle.fl_compress.proofs.AnswerLaws.{passed_on}
use Rattle.fl_compress.proofs.StatisticsLaws.{run_sizes_are}
use Rattle.fl_compress.proofs.statistics.run_sizes.Goals as goal

pub returns : goal.returns
returns c =
    run_sizes_are (run_parts c.args.runs.now) c.in_ok-values.values c.in_ok-indices.indices c.in_ok-offsets.offsets (ok_is _ _ c.in_ok-values.ensures) (ok_is _ _ c.in_ok-indices.ensures) (ok_is _ _ c.in_ok-offsets.ensures)

pub returns-in_err-offsets : goal.returns-in_err-offsets
returns-in_err-offsets c = passed_on (λ sizes. sizes) c.from_residual-in_err-offsets.result c.in_err-offsets.field-0.0 _ _ c.from_residual-in_err-offsets.ensures.1 c.in_err-offsets.ensures
