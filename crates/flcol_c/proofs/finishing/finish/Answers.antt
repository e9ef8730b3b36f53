use Rattle.std.proofs.Common.{length}
use Rattle.flcol_c.specs.Feet.{foot_said}
use Rattle.flcol_c.proofs.FeetLaws.{fault_given, finish_refused}
use Rattle.flcol_c.proofs.finishing.finish.Goals as goal

pub returns-in_err-foot-clause-fault : goal.returns-in_err-foot-clause-fault
returns-in_err-foot-clause-fault c =
    fault_given _ _ c.from_residual.result c.in_err-foot.field-0.0 c.from_residual.ensures.1
    (λ other. finish_refused c.args.place (length c.args.room.now) (foot_said c.args.dtype c.args.records.now c.args.place) c.in_err-foot.field-0.0 (c.in_err-foot.ensures other))
