use Rattle.std.proofs.Common.{◌≡◌, ◌+◌, take}
use Rattle.std.specs.List.{flat_map}
use Rattle.fl_types.specs.Bits.{between}
use Rattle.fl_types.specs.Validities.{items_of}
use Rattle.fl_types.specs.Buffers.{integers_of}
use Rattle.fl_column.proofs.selection.ranges_typed.Given as goal

-- the items of the ranges so far
abbrev pub invariant-loop-range : goal.invariant-loop-range
invariant-loop-range g l = l.taken ≡ flat_map (λ range. between range.0 (range.0 + range.1) (items_of l.validity (integers_of l.slots))) (take l.range-index l.ranges)
