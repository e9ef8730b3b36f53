use Rattle.fl_types.proofs.Refused.{no_memory}
use Rattle.fl_column.proofs.constant.compute.constant_of.Goals as goal

pub returns-in_err-slots : goal.returns-in_err-slots
returns-in_err-slots c = no_memory _ c.from_residual.result _ c.from_residual.ensures.1
