use Rattle.fl_types.proofs.Refused.{no_memory_there, only_memory}
use Rattle.fl_patches.proofs.patches.Patches.try_clone.Goals as goal

pub returns-in_err-indices : goal.returns-in_err-indices
returns-in_err-indices c = no_memory_there _ c.from_residual.result _ _ c.from_residual.ensures.1 (only_memory _ _ c.in_err-indices.ensures)

pub returns-in_err-values : goal.returns-in_err-values
returns-in_err-values c = no_memory_there _ c.from_residual-in_err-values.result _ _ c.from_residual-in_err-values.ensures.1 (only_memory _ _ c.in_err-values.ensures)
