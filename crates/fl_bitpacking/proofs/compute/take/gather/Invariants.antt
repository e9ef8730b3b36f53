use Rattle.std.proofs.Common.{◌≡◌, ◌<◌, ℕ, length}
use Rattle.std.specs.Prelude.{slice_index}
use Rattle.fl_bitpacking.specs.Blocks.{value_at}
use Rattle.fl_bitpacking.proofs.compute.take.gather.Given as goal

-- the items so far
abbrev pub invariant-loop-k : goal.invariant-loop-k
invariant-loop-k g l = record {
  long : length l.taken.items ≡ l.k;
  each : (i : ℕ) → i < l.k → value_at g.T.Number.value l.taken.items i ≡ value_at g.T.Number.value l.items (slice_index l.positions i);
}
