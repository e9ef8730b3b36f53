use Rattle.std.proofs.Common.{◌≡◌, ◌*◌, ◌≤◌}
use Rattle.fl_types.specs.Bits.{tabulate, true_count}
use Rattle.fl_bitmaps.proofs.CountLaws.{in_both}
use Rattle.fl_bitmaps.proofs.counting.count_both.Given as goal

-- those of the words so far
abbrev pub invariant-loop-k : goal.invariant-loop-k
invariant-loop-k l = record {
  counted : l.count ≡ true_count (tabulate (in_both l.left l.right) (64 * l.k));
  few : l.count ≤ 64 * l.k;
}

-- and of the bits
abbrev pub invariant-loop-i : goal.invariant-loop-i
invariant-loop-i l = record {
  counted : l.count ≡ true_count (tabulate (in_both l.left l.right) l.i);
  few : l.count ≤ l.i;
}
