use Rattle.std.proofs.Common.{◌≡◌, ℕ, pos, ◌<◌, ◌≤◌, get_or, map, not}
use Rattle.fl_bitpacking.specs.RangeTests.{passes}
use Rattle.fl_bitpacking.proofs.compute.compare.values.first_place.Given as goal

-- no value so far has the answer
abbrev pub invariant-loop-k : goal.invariant-loop-k
invariant-loop-k g l = (k : ℕ) → l.from ≤ k → k < l.k → passes l.test.range (get_or (map g.T.Number.value l.values) k (pos 0)) ≡ not l.passing
