use Rattle.std.proofs.Common.{arith}
use Rattle.fl_patches.proofs.ExceptionPatches.{gathered_global}
use Rattle.fl_patches.proofs.gathering.gather_patches.Goals as goal

pub returns-clause-parts : goal.returns-clause-parts
returns-clause-parts c = gathered_global c.args.array.now c.args.width c.len.result c.saturating_add-holds.result c.gather.result c.len.ensures.slots (omega arith) c.saturating_add-holds.ensures c.gather.ensures.parts
