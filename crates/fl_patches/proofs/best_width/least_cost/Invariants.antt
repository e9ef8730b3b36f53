use Rattle.std.proofs.Common.{◌≡◌, ◌^◌, ◌≤◌, sum, drop}
use Rattle.fl_patches.specs.Costs.{cost_of}
use Rattle.fl_patches.proofs.LeastCosts.{IsFirstLeast}
use Rattle.fl_patches.proofs.best_width.least_cost.Given as goal

-- the best of the widths so far, and the items above the last of them
abbrev pub invariant-loop-width : goal.invariant-loop-width
invariant-loop-width l = record {
  above : l.above ≡ sum (drop l.width l.histogram);
  fits : l.above ≤ 2 ^ 72;
  best : IsFirstLeast (cost_of l.fn.ptype l.histogram) l.width l.best;
  least : l.least ≡ cost_of l.fn.ptype l.histogram l.best;
}
