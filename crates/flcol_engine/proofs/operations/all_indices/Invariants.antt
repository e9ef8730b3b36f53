use Rattle.std.proofs.Common.{◌≡◌, Some, map, take}
use Rattle.flcol_engine.proofs.operations.all_indices.Given as goal

-- the indices so far are numbers
abbrev pub invariant-loop-index : goal.invariant-loop-index
invariant-loop-index l = map Some l.numbers.items ≡ take l.index-index l.indices
