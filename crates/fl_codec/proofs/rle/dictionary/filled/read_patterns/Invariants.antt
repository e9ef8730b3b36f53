use Rattle.std.proofs.Common.{◌≡◌, ◌<◌, ℕ, pos, get_or, length, map}
use Rattle.fastlanes.specs.Layout.{pattern_at}
use Rattle.fl_types.specs.Integers.{read_as}
use Rattle.fl_codec.proofs.rle.dictionary.filled.read_patterns.Given as goal

-- the values so far
abbrev pub invariant-loop-i : goal.invariant-loop-i
invariant-loop-i g l = record {
  done : (j : ℕ) → j < l.i → get_or (map g.T.Number.value l.items) j (pos 0) ≡ read_as g.T.NativePType.PTYPE (pattern_at g.T.Physical.FastLanes.pattern l.block j);
  whole : length l.items ≡ 1024;
}
