use Rattle.std.proofs.Common.{◌≡◌, ◌+◌, take}
use Rattle.std.specs.List.{flat_map}
use Rattle.fl_types.specs.Bits.{between}
use Rattle.fl_column.proofs.selection.without_nulls.items_in_ranges.Given as goal

-- the items of the ranges so far
abbrev pub invariant-loop-range : goal.invariant-loop-range
invariant-loop-range g l = l.taken.items ≡ flat_map (λ range. between range.0 (range.0 + range.1) l.items) (take l.range-index l.ranges)
