use Rattle.std.proofs.Common.{◌≡◌, ℕ, ◌*◌, ◌<◌, get_or}
use Rattle.fl_patches.specs.PatchMaps.{count_below}
use Rattle.fl_column.specs.Numbers.{numbers, numbers_by}
use Rattle.fl_patches.proofs.checks.are_chunk_offsets_typed.Given as goal

-- the chunk offsets so far count the indices
abbrev pub invariant-loop-k : goal.invariant-loop-k
invariant-loop-k g l = (k : ℕ) → k < l.k → get_or (numbers_by g.C.Number.value l.offsets) k 0 ≡ count_below (1024 * k) (numbers l.indices)
