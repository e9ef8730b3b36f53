use Rattle.std.proofs.Common.{◌≡◌, take}
use Rattle.flcol_c.specs.Operations.{pairs_of}
use Rattle.flcol_c.proofs.ranges.pairs_of.Given as goal

-- the pairs of the ranges so far
abbrev pub invariant-loop-range : goal.invariant-loop-range
invariant-loop-range l = record { begun : l.pairs.items ≡ pairs_of (take l.range-index l.ranges) }
