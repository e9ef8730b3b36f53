use Rattle.std.proofs.Common.{◌≡◌, ℕ, ◌<◌, ◌≤◌, [], get_or}
use Rattle.fl_bitmaps.specs.Operators.{IsJoin, answers_at}
use Rattle.fl_bitmaps.proofs.joining.join_known.Given as goal

-- the bytes so far are joined, and the others as they were
abbrev pub invariant-loop-k : goal.invariant-loop-k
invariant-loop-k g l = record {
  joined : (i : ℕ) → i < l.k → IsJoin g.O.Operator.of (answers_at l.initial.bits [] i) (answers_at l.other [] i) (answers_at l.bits [] i);
  before : (i : ℕ) → l.k ≤ i → get_or l.bits i 0 ≡ get_or l.initial.bits i 0;
}
