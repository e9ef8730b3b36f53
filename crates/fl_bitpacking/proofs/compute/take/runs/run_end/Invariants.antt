use Rattle.std.proofs.Common.{◌≡◌, ℕ, ◌+◌, ◌/◌, ◌<◌, ◌≤◌}
use Rattle.std.specs.Prelude.{slice_index}
use Rattle.fl_bitpacking.proofs.compute.take.runs.run_end.Given as goal

-- the positions so far lie in the block of the first one
abbrev pub invariant-loop-k : goal.invariant-loop-k
invariant-loop-k l = (i : ℕ) → l.from ≤ i → i < l.k → (l.offset + slice_index l.positions i) / 1024 ≡ (l.offset + slice_index l.positions l.from) / 1024
