use Rattle.std.proofs.Common.{◌≡◌}
use Rattle.fl_types.specs.Bits.{tabulate}
use Rattle.fl_column.specs.Columns.{integers_in}
use Rattle.fl_scan.specs.Blocks.{items_before}
use Rattle.fl_scan.specs.Counts.{both, marked_from, passed_in}
use Rattle.fl_scan.proofs.passing.keep_passing.Given as goal

-- the marks of the blocks so far
abbrev pub invariant-loop-j : goal.invariant-loop-j
invariant-loop-j g l = l.bits ≡ tabulate (both (marked_from l.marks 0) (passed_in (g.P.BlockTest.passing l.test) (integers_in l.reader.column))) (items_before l.reader l.j)
