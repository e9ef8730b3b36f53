use Rattle.std.proofs.Common.{ℕ, ◌^◌, ◌<◌}
use Rattle.fastlanes.specs.Layout.{pattern_at}
use Rattle.fastlanes.proofs.laws.words_are_in_range.Given as goal

abbrev pub invariant-loop-i : goal.invariant-loop-i
invariant-loop-i g l = (j : ℕ) → j < l.i → pattern_at g.W.FastLanes.pattern l.words j < 2 ^ g.W.FastLanes.T
