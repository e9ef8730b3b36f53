use Rattle.std.proofs.Common.{◌≤◌}
use Rattle.fl_column.specs.Numbers.{numbers_by}
use Rattle.fl_patches.specs.PatchMaps.{count_below}
use Rattle.fl_bitpacking.proofs.patching.ranges.count_from.Given as goal

-- the indices so far are below the limit
abbrev pub invariant-loop-k : goal.invariant-loop-k
invariant-loop-k g l = l.k ≤ count_below l.limit (numbers_by g.I.Number.value l.indices)
