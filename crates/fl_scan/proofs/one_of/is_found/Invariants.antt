use Rattle.std.proofs.Common.{◌-◌, ◌≤◌, length}
use Rattle.fl_scan.proofs.ListLaws.{IsSearched}
use Rattle.fl_scan.proofs.one_of.is_found.Given as goal

-- the part that is left to search
abbrev pub invariant-loop-low : goal.invariant-loop-low
invariant-loop-low g l = record {
  order : l.low ≤ l.high;
  few : l.high ≤ length l.list;
  searched : IsSearched g.T.Number.value l.list (g.T.Number.value l.item) l.low l.high;
}

abbrev pub decreases-loop-low : goal.decreases-loop-low
decreases-loop-low g l = l.high - l.low
