use Rattle.std.proofs.Common.{◌≡◌, ◌+◌, length, map}
use Rattle.flcol_engine.specs.Printing.{item_lines}
use Rattle.flcol_engine.proofs.printing.items_len.Given as goal

-- the lines so far and those that are left make up all
abbrev pub invariant-loop-i : goal.invariant-loop-i
invariant-loop-i g l = l.total + length (item_lines g.T.NativePType.PTYPE l.validity (map g.T.Number.value l.slots) l.i) ≡ length (item_lines g.T.NativePType.PTYPE l.validity (map g.T.Number.value l.slots) 0)
