use Rattle.std.proofs.Common.{◌≡◌, ℕ, ◌<◌, ◌≤◌, [], length}
use Rattle.fl_bitmaps.specs.Operators.{IsJoin, answers_at}
use Rattle.fl_bitmaps.proofs.joining.join_with_known.Given as goal

-- the bytes so far are joined, and the others as they were
abbrev pub invariant-loop-k : goal.invariant-loop-k
invariant-loop-k g l = record {
  long : length l.bits ≡ length l.initial.bits;
  joined : (i : ℕ) → i < l.k → IsJoin g.O.Operator.of (answers_at l.initial.bits l.initial.validity i) (answers_at l.other [] i) (answers_at l.bits l.validity i);
  before : (i : ℕ) → l.k ≤ i → answers_at l.bits l.validity i ≡ answers_at l.initial.bits l.initial.validity i;
}
