use Rattle.std.proofs.Common.{length}
use Rattle.flcol_engine.proofs.WordLemmas.{AreRead}
use Rattle.flcol_engine.specs.Words.{parts_at}
use Rattle.flcol_engine.proofs.arg_parts.list.Given as goal

-- the parts before the rest are read
abbrev pub invariant-loop-part : goal.invariant-loop-part
invariant-loop-part g l = AreRead g.T.Element.said l.elements.items (parts_at 44 l.rest) (parts_at 44 l.fn.text)

abbrev pub decreases-loop-part : goal.decreases-loop-part
decreases-loop-part g l = length l.rest
