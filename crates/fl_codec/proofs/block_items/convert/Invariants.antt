use Rattle.std.proofs.Common.{◌≡◌, ◌<◌, ℕ, pos, get_or, map}
use Rattle.fastlanes.specs.Layout.{pattern_at}
use Rattle.fl_types.specs.Integers.{read_as}
use Rattle.fl_codec.proofs.block_items.convert.Given as goal

-- the values so far
abbrev pub invariant-loop-i : goal.invariant-loop-i
invariant-loop-i g l = (j : ℕ) → j < l.i → get_or (map g.T.Number.value l.values) j (pos 0) ≡ read_as g.T.NativePType.PTYPE (pattern_at g.T.Physical.FastLanes.pattern l.patterns j)
