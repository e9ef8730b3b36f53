use Rattle.std.proofs.Common.{◌≡◌, ◌+◌, sum, drop}
use Rattle.fl_patches.specs.Costs.{count_above}
use Rattle.row_reader.proofs.column_rows.widths.sum_above.Given as goal

-- what is summed, and what is still to be summed, are all of it
abbrev pub invariant-loop-i : goal.invariant-loop-i
invariant-loop-i l = l.total + sum (drop l.i l.histogram) ≡ count_above l.width l.histogram
