use Rattle.std.proofs.Common.{◌≡◌, ℕ, ◌*◌, ◌<◌, ◌≤◌, not}
use Rattle.fl_column.specs.Bitmaps.{bit_in}
use Rattle.fl_bitmaps.proofs.turning.turn.Given as goal

-- the bits of the bytes so far are turned, and the others as they were
abbrev pub invariant-loop-k : goal.invariant-loop-k
invariant-loop-k l = record {
  turned : (i : ℕ) → i < 8 * l.k → bit_in l.bits i ≡ not (bit_in l.initial.bits i);
  before : (i : ℕ) → 8 * l.k ≤ i → bit_in l.bits i ≡ bit_in l.initial.bits i;
}
