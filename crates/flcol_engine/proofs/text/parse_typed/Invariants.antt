use Rattle.std.proofs.Common.{length, map}
use Rattle.flcol_engine.proofs.ParseLemmas.{IsParsed}
use Rattle.flcol_engine.proofs.text.parse_typed.Given as goal

-- the lines before the rest are read
abbrev pub invariant-loop-rest : goal.invariant-loop-rest
invariant-loop-rest g l = IsParsed g.T.NativePType.PTYPE l.nullability (map g.T.Number.value l.slots.items) l.validity l.rest l.fn.text

abbrev pub decreases-loop-rest : goal.decreases-loop-rest
decreases-loop-rest g l = length l.rest
