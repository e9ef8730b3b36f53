use Rattle.std.proofs.Common.{take}
use Rattle.fl_column.specs.Columns.{integers_in}
use Rattle.fl_scan.specs.Blocks.{items_before}
use Rattle.fl_scan.proofs.blocks.add_each.Given as goal

-- what is gathered of the blocks so far
abbrev pub invariant-loop-j : goal.invariant-loop-j
invariant-loop-j g l = g.F.Fold.Leads l.initial.fold (take (items_before l.reader l.j) (integers_in l.reader.column)) l.fold
