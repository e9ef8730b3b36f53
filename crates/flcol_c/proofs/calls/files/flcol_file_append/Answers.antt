use Rattle.std.proofs.Common.{◌≡◌, length, of_z, rules, to_z, w32, ◌∙◌}
use Rattle.flcol_c.proofs.CallLaws.{append_status}
use Rattle.flcol_c.proofs.calls.files.flcol_file_append.Goals as goal

pub returns-in-Err-clause-status : goal.returns-in-Err-clause-status
returns-in-Err-clause-status c =
    let same : to_z w32 (of_z w32 c.status-in-Err.result) ≡ c.status-in-Err.result = search rules in
    append_status c.args.place (length c.args.bytes.now) c.args.array.now.tree c.in-Some.source.now c.in-Err.fault _ c.in-Some.ensures.value c.in-Err.ensures.refused (same ∙ c.status-in-Err.ensures)
