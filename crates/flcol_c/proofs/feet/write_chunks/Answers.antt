use Rattle.std.proofs.Common.{length}
use Rattle.fl_file.specs.FileReading.{foot_of_file}
use Rattle.flcol_c.proofs.FeetLaws.{chunks_refused, fault_given}
use Rattle.flcol_c.proofs.feet.write_chunks.Goals as goal

pub returns-in_err-foot-clause-written : goal.returns-in_err-foot-clause-written
returns-in_err-foot-clause-written c =
    fault_given _ _ c.from_residual.result c.in_err-foot.field-0.0 c.from_residual.ensures.1 (λ other. chunks_refused (length c.args.records.now) (foot_of_file c.args.bytes.now) c.in_err-foot.field-0.0 (c.in_err-foot.ensures other))
