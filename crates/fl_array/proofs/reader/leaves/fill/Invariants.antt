use Rattle.std.proofs.Common.{◌≡◌, ◌<◌, ℕ}
use Rattle.fl_bitpacking.specs.Blocks.{value_at}
use Rattle.fl_array.proofs.reader.leaves.fill.Given as goal

-- the integers so far
abbrev pub invariant-loop-i : goal.invariant-loop-i
invariant-loop-i g l = (k : ℕ) → k < l.i → value_at g.T.Number.value l.items k ≡ g.T.Number.value l.value
