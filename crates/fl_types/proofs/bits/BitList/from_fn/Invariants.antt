use Rattle.std.proofs.Common.{◌≡◌, ℕ, ◌*◌, ◌<◌, length}
use Rattle.fl_types.specs.Bits.{is_set}
use Rattle.fl_types.proofs.bits.BitList.from_fn.Given as goal

-- the words so far
abbrev pub invariant-loop-k : goal.invariant-loop-k
invariant-loop-k g l = record {
  count : length l.words.items ≡ l.k;
  bits : (i : ℕ) → i < 64 * l.k → goal.F-post g l.bit i (is_set l.words.items i);
}
