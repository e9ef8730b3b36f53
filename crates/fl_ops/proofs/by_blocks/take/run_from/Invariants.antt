use Rattle.std.proofs.Common.{◌≡◌, ◌<◌, ◌≤◌, ℕ, ℤ, None, Some, get_or, unsigned_abs}
use Rattle.fl_ops.proofs.by_blocks.take.run_from.Given as goal

-- the items that the indices so far name lie in the block
abbrev pub invariant-loop-k : goal.invariant-loop-k
invariant-loop-k g l = record {
  start : l.start ≤ l.low;
  order : l.low < l.high;
  end : l.high ≤ l.end;
  above : (i : ℕ) (z : ℤ) → l.from ≤ i → i < l.k → get_or l.indices.items i None ≡ Some z → l.low ≤ unsigned_abs z;
  below : (i : ℕ) (z : ℤ) → l.from ≤ i → i < l.k → get_or l.indices.items i None ≡ Some z → unsigned_abs z < l.high;
}
