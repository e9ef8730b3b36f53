use Rattle.std.proofs.Common.{◌≡◌, ◌*◌, ◌≤◌, min}
use Rattle.fl_scan.specs.Counts.{answered_from, both, count_below, marked_from}
use Rattle.fl_scan.proofs.counting.count_answers.Given as goal

-- those of the words so far
abbrev pub invariant-loop-k : goal.invariant-loop-k
invariant-loop-k l = (l.total ≡ count_below (both (marked_from l.marks l.start) (answered_from l.answers l.at)) (min (64 * l.k) l.count)) × (l.total ≤ 64 * l.k)
