use Rattle.std.proofs.Common.{map}
use Rattle.fl_ops.specs.BlockReads.{AreCast, items_before}
use Rattle.fl_ops.proofs.by_blocks.cast.push_all.Given as goal

-- the items of the blocks so far in the type
abbrev pub invariant-loop-j : goal.invariant-loop-j
invariant-loop-j g l = AreCast g.T.NativePType.PTYPE (map g.T.Number.value l.cast.items) (items_before l.reader l.j) l.reader.column
