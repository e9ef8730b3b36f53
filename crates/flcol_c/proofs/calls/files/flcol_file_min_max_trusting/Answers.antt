use Rattle.std.proofs.Common.{◌≡◌, None, Option, of_z, rules, to_z, w32, ◌∙◌}
use Rattle.fl_file.specs.declared.statistics.Extremes.{Extremes}
use Rattle.fl_file.specs.Statistics.{extremes_among}
use Rattle.flcol_file.specs.Chunked.{valid_in}
use Rattle.flcol_c.proofs.CallLaws.{fault_status}
use Rattle.flcol_c.proofs.calls.files.flcol_file_min_max_trusting.Goals as goal

pub returns-in-Err-clause-status : goal.returns-in-Err-clause-status
returns-in-Err-clause-status c = λ columns held.
    let same : to_z w32 (of_z w32 c.status.result) ≡ c.status.result = search rules in
    fault_status None (λ (found : Option Extremes). found ≡ extremes_among (valid_in columns)) c.in-Err.fault _ (c.in-Err.ensures.extremes columns held) (same ∙ c.status.ensures)
