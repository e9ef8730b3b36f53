use Rattle.std.proofs.Common.{◌≡◌, ◌*◌, ◌++◌, min}
use Rattle.fl_types.specs.Bits.{tabulate}
use Rattle.fl_scan.specs.Counts.{answered_from, both, marked_from}
use Rattle.fl_scan.proofs.passing.push_answers.Given as goal

-- the marks of the words so far
abbrev pub invariant-loop-k : goal.invariant-loop-k
invariant-loop-k l = l.bits ≡ l.initial.bits ++ tabulate (both (marked_from l.marks l.part.start) (answered_from l.answers l.part.at)) (min (64 * l.k) l.part.count)
