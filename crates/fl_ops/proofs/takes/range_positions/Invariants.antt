use Rattle.std.proofs.Common.{◌≡◌, take}
use Rattle.fl_ops.specs.Takes.{range_positions}
use Rattle.fl_ops.proofs.takes.range_positions.Given as goal

-- the positions in the ranges so far
abbrev pub invariant-loop-range : goal.invariant-loop-range
invariant-loop-range l = l.positions.items ≡ range_positions (take l.range-index l.ranges)
