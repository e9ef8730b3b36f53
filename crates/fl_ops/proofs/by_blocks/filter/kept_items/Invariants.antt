use Rattle.std.proofs.Common.{map}
use Rattle.fl_ops.specs.BlockReads.{AreKept, items_before}
use Rattle.fl_ops.proofs.by_blocks.filter.kept_items.Given as goal

-- what is kept of the blocks so far
abbrev pub invariant-loop-j : goal.invariant-loop-j
invariant-loop-j g l = AreKept l.bits (map g.T.Number.value l.taken.items) (items_before l.reader l.j) l.reader.column
