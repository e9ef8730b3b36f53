use Rattle.std.proofs.Common.{◌≡◌, of_z, rules, to_z, w32, ◌∙◌}
use Rattle.flcol_c.proofs.CallLaws.{verdict_status, verified_by}
use Rattle.flcol_c.proofs.calls.files.flcol_file_verify.Goals as goal

pub returns-in-Err-clause-status : goal.returns-in-Err-clause-status
returns-in-Err-clause-status c = λ foot is some other.
    let same : to_z w32 (of_z w32 c.status.result) ≡ c.status.result = search rules in
    verdict_status c.args.bytes.now foot c.in-Err.fault _ (c.in-Err.ensures.verdict foot is) (same ∙ c.status.ensures) other

pub returns-in-Ok-clause-verified : goal.returns-in-Ok-clause-verified
returns-in-Ok-clause-verified c = λ _. verified_by c.args.bytes.now c.in-Ok.ensures.foot c.in-Ok.ensures.verdict
