use Rattle.std.proofs.Common.{map}
use Rattle.flcol_engine.proofs.LengthLemmas.{IsPrinted}
use Rattle.flcol_engine.proofs.printing.put_items.Given as goal

-- the lines from an item on are written
abbrev pub invariant-loop-i : goal.invariant-loop-i
invariant-loop-i g l = IsPrinted g.T.NativePType.PTYPE l.validity (map g.T.Number.value l.slots) l.i l.end l.text
