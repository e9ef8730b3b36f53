use Rattle.std.proofs.Common.{◌≡◌, ◌+◌, ◌≤◌, ◌++◌, vec_len, vec_capacity}
use Rattle.std.specs.List.{range_with_len}
use Rattle.fl_ops.proofs.takes.push_positions.Given as goal

-- the positions so far, and room for the others
abbrev pub invariant-loop-k : goal.invariant-loop-k
invariant-loop-k l = record {
  long : vec_len l.positions ≡ vec_len l.fn.positions + l.k;
  room : vec_len l.fn.positions + l.count ≤ vec_capacity l.positions;
  items : l.positions.items ≡ l.fn.positions.items ++ range_with_len l.start l.k;
}
