use Rattle.std.proofs.Common.{◌≡◌, of_z, rules, to_z, w32, ◌∙◌}
use Rattle.flcol_c.proofs.CallLaws.{sum_status}
use Rattle.flcol_c.proofs.calls.files.flcol_file_sum_trusting.Goals as goal

pub returns-in-Err-clause-status : goal.returns-in-Err-clause-status
returns-in-Err-clause-status c = λ columns held.
    let same : to_z w32 (of_z w32 c.status.result) ≡ c.status.result = search rules in
    sum_status columns c.in-Err.fault _ (c.in-Err.ensures.sum columns held) (same ∙ c.status.ensures)
