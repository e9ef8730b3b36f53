use Rattle.std.proofs.Common.{take}
use Rattle.fl_file.specs.Pruning.{IsPlanOf}
use Rattle.fl_file.proofs.pruning.plan.Given as goal

-- the plan so far
abbrev pub invariant-loop-chunk : goal.invariant-loop-chunk
invariant-loop-chunk l = IsPlanOf l.test (take l.chunk-index l.chunks) l.plan.items
