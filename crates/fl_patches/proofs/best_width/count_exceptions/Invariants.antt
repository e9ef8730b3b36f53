use Rattle.std.proofs.Common.{◌≡◌, ◌+◌, sum, drop}
use Rattle.fl_patches.specs.Costs.{count_above}
use Rattle.fl_patches.proofs.best_width.count_exceptions.Given as goal

-- what is counted, and what is still to be counted, are all of them
abbrev pub invariant-loop-i : goal.invariant-loop-i
invariant-loop-i l = l.count + sum (drop l.i l.histogram) ≡ count_above l.width l.histogram
