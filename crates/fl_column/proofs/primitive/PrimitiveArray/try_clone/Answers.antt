use Rattle.fl_types.proofs.Refused.{no_memory, no_memory_there, only_memory}
use Rattle.fl_column.proofs.primitive.PrimitiveArray.try_clone.Goals as goal

pub returns-in_err-validity : goal.returns-in_err-validity
returns-in_err-validity c = no_memory_there _ c.from_residual.result _ _ c.from_residual.ensures.1 (only_memory _ _ c.in_err-validity.ensures)

pub returns-in_err-slots : goal.returns-in_err-slots
returns-in_err-slots c = no_memory _ c.from_residual-in_err-slots.result _ c.from_residual-in_err-slots.ensures.1
