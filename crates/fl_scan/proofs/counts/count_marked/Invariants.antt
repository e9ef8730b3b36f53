use Rattle.std.proofs.Common.{◌≡◌, ◌≤◌}
use Rattle.fl_column.specs.Columns.{integers_in}
use Rattle.fl_bitpacking.specs.RangeTests.{passes}
use Rattle.fl_scan.specs.Blocks.{items_before}
use Rattle.fl_scan.specs.Counts.{both, count_below, marked_from, passed_in}
use Rattle.fl_scan.proofs.counts.count_marked.Given as goal

-- those of the blocks so far
abbrev pub invariant-loop-j : goal.invariant-loop-j
invariant-loop-j g l =
    (l.count ≡ count_below (both (marked_from l.marks 0) (passed_in (passes l.range) (integers_in l.reader.column))) (items_before l.reader l.j))
    × (l.count ≤ items_before l.reader l.j)
