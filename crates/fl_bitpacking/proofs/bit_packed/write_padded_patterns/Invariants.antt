use Rattle.std.proofs.Common.{◌≡◌, ℕ, ◌<◌, length, map}
use Rattle.fastlanes.specs.Layout.{pattern_at}
use Rattle.fl_bitpacking.specs.Blocks.{pattern_in}
use Rattle.fl_bitpacking.proofs.bit_packed.write_padded_patterns.Given as goal

-- the patterns of the integers, and behind them of 0, so far
abbrev pub invariant-loop-j : goal.invariant-loop-j
invariant-loop-j g l = record {
  done : (k : ℕ) → k < l.j → pattern_at g.T.Physical.FastLanes.pattern l.patterns k ≡ pattern_in g.T.NativePType.PTYPE (map g.T.Number.value l.items) k;
  whole : length l.patterns ≡ 1024;
}
