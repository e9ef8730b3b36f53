use Rattle.std.proofs.Common.{◌≡◌, ◌+◌, take}
use Rattle.std.specs.List.{flat_map}
use Rattle.fl_types.specs.Bits.{between}
use Rattle.fl_ops.proofs.by_blocks.ranges.bits_of_ranges.Given as goal

-- the bits of the ranges so far
abbrev pub invariant-loop-range : goal.invariant-loop-range
invariant-loop-range l = l.bits ≡ flat_map (λ range. between range.0 (range.0 + range.1) l.valid) (take l.range-index l.ranges)
