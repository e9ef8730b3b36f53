use Rattle.std.proofs.Common.{◌≡◌, ◌||◌, ℕ, ◌*◌, ◌<◌, ◌≤◌, length}
use Rattle.fastlanes.specs.Compared.{has_bit}
use Rattle.fl_scan.proofs.one_of.join.Given as goal

-- the words so far are joined, and those behind are as they were
abbrev pub invariant-loop-k : goal.invariant-loop-k
invariant-loop-k l = record {
  done : (i : ℕ) → i < 64 * l.k → has_bit l.bits i ≡ (has_bit l.initial.bits i || has_bit l.other i);
  rest : (i : ℕ) → 64 * l.k ≤ i → has_bit l.bits i ≡ has_bit l.initial.bits i;
  whole : length l.bits ≡ 16;
}
