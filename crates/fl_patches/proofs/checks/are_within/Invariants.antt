use Rattle.std.proofs.Common.{◌≡◌, ℕ, ◌<◌, get_or, true}
use Rattle.fl_patches.specs.PatchMaps.{is_index_within}
use Rattle.fl_column.specs.Numbers.{numbers_by}
use Rattle.fl_patches.proofs.checks.are_within.Given as goal

-- the indices so far are within
abbrev pub invariant-loop-i : goal.invariant-loop-i
invariant-loop-i g l = (k : ℕ) → k < l.i → is_index_within l.offset l.array_len (get_or (numbers_by g.I.Number.value l.indices) k 0) ≡ true
