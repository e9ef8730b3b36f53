use Rattle.std.proofs.Common.{◌≡◌}
use Rattle.std.specs.Prelude.{take}
use Rattle.fl_column.specs.Numbers.{numbers_by}
use Rattle.fl_patches.specs.PatchMaps.{count_below}
use Rattle.fl_patches.proofs.indices.count_each.Given as goal

-- how many of the indices so far are below the number
abbrev pub invariant-loop-k : goal.invariant-loop-k
invariant-loop-k g l = l.count ≡ count_below l.limit (take l.k (numbers_by g.I.Number.value l.indices))
