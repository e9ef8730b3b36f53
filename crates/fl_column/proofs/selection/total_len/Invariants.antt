use Rattle.std.proofs.Common.{◌≡◌, ◌<◌, ◌^◌, take, sum_by}
use Rattle.fl_column.proofs.selection.total_len.Given as goal

-- the total so far
abbrev pub invariant-loop-range : goal.invariant-loop-range
invariant-loop-range l = record {
  total : l.total ≡ sum_by (λ range. range.1) (take l.range-index l.ranges);
  fits : l.total < 2 ^ 64;
}
