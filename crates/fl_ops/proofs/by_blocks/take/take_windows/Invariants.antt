use Rattle.std.proofs.Common.{◌-◌, ◌≤◌, length}
use Rattle.fl_bitpacking.specs.Blocks.{value_at}
use Rattle.fl_ops.specs.TakenItems.{ArePicked}
use Rattle.fl_ops.proofs.by_blocks.take.take_windows.Given as goal

-- the items of the windows so far
abbrev pub invariant-loop-low : goal.invariant-loop-low
invariant-loop-low g l = record {
  picked : ArePicked (value_at g.T.Number.value l.picked) l.indices.items (length l.indices.items) l.low l.reader.column;
  within : l.low ≤ length l.reader.column.items;
}

abbrev pub decreases-loop-low : goal.decreases-loop-low
decreases-loop-low g l = length l.reader.column.items - l.low
