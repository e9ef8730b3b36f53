use Rattle.std.proofs.Common.{Some, map}
use Rattle.fl_file.proofs.SummaryLaws.{RiseTo}
use Rattle.fl_file.proofs.summary.rise.Given as goal

-- the integers so far rise
abbrev pub invariant-loop-i : goal.invariant-loop-i
invariant-loop-i g l = RiseTo l.i (map (λ z. Some z) (map g.T.Number.value l.items))
