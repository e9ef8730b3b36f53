use Rattle.std.proofs.Common.{◌-◌, ◌≤◌, length}
use Rattle.fl_bitpacking.specs.Blocks.{value_at}
use Rattle.fl_ops.specs.TakenItems.{ArePicked}
use Rattle.fl_ops.proofs.by_blocks.take.take_runs.Given as goal

-- the items of the runs so far
abbrev pub invariant-loop-from : goal.invariant-loop-from
invariant-loop-from g l = record {
  picked : ArePicked (value_at g.T.Number.value l.picked) l.indices.items l.from (length l.reader.column.items) l.reader.column;
  within : l.from ≤ length l.indices.items;
}

abbrev pub decreases-loop-from : goal.decreases-loop-from
decreases-loop-from g l = length l.indices.items - l.from
