use Rattle.fl_types.proofs.ClearedBits.{Gathers}
use Rattle.fl_types.proofs.bits.gathered.Given as goal

-- the bits that are left are still to be cleared
abbrev pub invariant-loop-step : goal.invariant-loop-step
invariant-loop-step l = Gathers l.word l.mask l.gathered l.rest

-- the bits that are left are still to be cleared
abbrev pub invariant-loop-rest : goal.invariant-loop-rest
invariant-loop-rest l = Gathers l.word l.mask l.gathered l.rest

abbrev pub decreases-loop-rest : goal.decreases-loop-rest
decreases-loop-rest l = l.rest
