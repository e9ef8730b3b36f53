use Rattle.fl_codec.specs.Parts.{run_parts}
use Rattle.fl_array.proofs.EncodedRLE.{ok_is}
use Rattle.fl_compress.proofs.AnswerLaws.{passed_on}
use Rattle.fl_compress.proofs.StatisticsLaws.{statistics_are}
use Rattle.fl_compress.proofs.statistics.statistics_of.Goals as goal

pub returns : goal.returns
returns c =
    statistics_are c.args.array.now c.in_ok-items.items (run_parts c.in_ok-runs.runs) (run_parts c.in_ok-dictionaries.dictionaries) c.in_ok-runs-2.runs c.in_ok-dictionaries-2.dictionaries
    (ok_is _ _ c.in_ok-items.ensures) (ok_is _ _ c.in_ok-runs.ensures) (ok_is _ _ c.in_ok-runs-2.ensures) (ok_is _ _ c.in_ok-dictionaries.ensures) (ok_is _ _ c.in_ok-dictionaries-2.ensures)

pub returns-in_err-dictionaries-2 : goal.returns-in_err-dictionaries-2
returns-in_err-dictionaries-2 c = passed_on (λ statistics. statistics) c.from_residual-in_err-dictionaries-2.result c.in_err-dictionaries-2.field-0.0 _ _ c.from_residual-in_err-dictionaries-2.ensures.1 c.in_err-dictionaries-2.ensures
