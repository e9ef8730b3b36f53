use Rattle.std.proofs.Common.{◌≡◌, ℕ, ◌*◌, ◌<◌, ◌≤◌, length, not}
use Rattle.fastlanes.specs.Compared.{has_bit}
use Rattle.fl_bitpacking.proofs.compute.compare.negate.Given as goal

-- the words so far are turned round, and those behind are as they were
abbrev pub invariant-loop-k : goal.invariant-loop-k
invariant-loop-k l = record {
  done : (i : ℕ) → i < 64 * l.k → has_bit l.bits i ≡ not (has_bit l.initial.bits i);
  rest : (i : ℕ) → 64 * l.k ≤ i → has_bit l.bits i ≡ has_bit l.initial.bits i;
  whole : length l.bits ≡ 16;
}
