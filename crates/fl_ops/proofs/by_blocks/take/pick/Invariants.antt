use Rattle.std.proofs.Common.{◌≡◌, ◌+◌, ◌-◌, ◌<◌, ◌≤◌, ℕ, ℤ, None, Some, get_or, length, unsigned_abs}
use Rattle.fl_bitpacking.specs.Blocks.{value_at}
use Rattle.fl_ops.proofs.by_blocks.take.pick.Given as goal

-- the items of the indices so far, and what stays
abbrev pub invariant-loop-k : goal.invariant-loop-k
invariant-loop-k g l =
    let value = g.T.Number.value in record {
      here : (k : ℕ) (z : ℤ) → l.run.from ≤ k → k < l.k → get_or l.indices.items k None ≡ Some z → l.run.low ≤ unsigned_abs z → unsigned_abs z < l.run.low + length l.read → value_at value l.picked k ≡ value_at value l.read (unsigned_abs z - l.run.low);
      below : (k : ℕ) (z : ℤ) → get_or l.indices.items k None ≡ Some z → unsigned_abs z < l.run.low → value_at value l.picked k ≡ value_at value l.initial.picked k;
      before : (k : ℕ) → k < l.run.from → value_at value l.picked k ≡ value_at value l.initial.picked k;
    }
