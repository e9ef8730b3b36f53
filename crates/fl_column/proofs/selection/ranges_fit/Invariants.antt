use Rattle.std.proofs.Common.{◌≡◌, take, true}
use Rattle.std.specs.List.{list_all}
use Rattle.fl_column.specs.Operations.{range_fits}
use Rattle.fl_column.proofs.selection.ranges_fit.Given as goal

-- the ranges so far fit
abbrev pub invariant-loop-start : goal.invariant-loop-start
invariant-loop-start l = list_all (range_fits l.len) (take l.start-index l.ranges) ≡ true
