use Rattle.std.proofs.Common.{ℕ, ◌<◌, ◌≤◌, get_or, map, pos}
use Rattle.fl_types.specs.Integers.{pattern_of}
use Rattle.fl_patches.proofs.gathering.greatest_of.Given as goal

-- no pattern so far is above the greatest
abbrev pub invariant-loop-item : goal.invariant-loop-item
invariant-loop-item g l = (i : ℕ) → i < l.item-index → pattern_of g.T.NativePType.PTYPE (get_or (map g.T.Number.value l.items) i (pos 0)) ≤ g.T.Physical.FastLanes.pattern l.greatest
