use Rattle.std.proofs.Common.{◌≡◌, of_z, rules, to_z, w32}
use Rattle.std.specs.Prelude.{count_by, is_none}
use Rattle.flcol_file.specs.Chunked.{items_in}
use Rattle.flcol_c.proofs.CallLaws.{counted_found, counted_status}
use Rattle.flcol_c.proofs.calls.files.flcol_file_null_count_trusting.Goals as goal

pub returns-clause-status : goal.returns-clause-status
returns-clause-status c = λ columns held.
    let same : to_z w32 (of_z w32 c.write_answer.result) ≡ c.write_answer.result = search rules in
    counted_status (count_by is_none (items_in columns)) c.null_count_trusting.result c.write_answer.result _ same (c.null_count_trusting.ensures.count columns held) c.write_answer.ensures.status

pub returns-clause-found : goal.returns-clause-found
returns-clause-found c = λ columns held.
    let same : to_z w32 (of_z w32 c.write_answer.result) ≡ c.write_answer.result = search rules in
    counted_found (count_by is_none (items_in columns)) c.write_answer.new.out c.null_count_trusting.result c.write_answer.result _ same (c.null_count_trusting.ensures.count columns held) c.write_answer.ensures.written
