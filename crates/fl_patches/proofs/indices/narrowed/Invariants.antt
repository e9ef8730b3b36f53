use Rattle.std.proofs.Common.{◌≤◌, length, ◌-◌}
use Rattle.fl_column.specs.Numbers.{numbers_by}
use Rattle.fl_patches.specs.PatchMaps.{count_below}
use Rattle.fl_patches.proofs.indices.narrowed.Given as goal

-- the place where the indices below the number end lies in the range
abbrev pub invariant-loop-high : goal.invariant-loop-high
invariant-loop-high g l = record {
  low : l.low ≤ count_below l.limit (numbers_by g.I.Number.value l.indices);
  high : count_below l.limit (numbers_by g.I.Number.value l.indices) ≤ l.high;
  within : l.high ≤ length l.indices;
}

abbrev pub decreases-loop-high : goal.decreases-loop-high
decreases-loop-high g l = l.high - l.low
