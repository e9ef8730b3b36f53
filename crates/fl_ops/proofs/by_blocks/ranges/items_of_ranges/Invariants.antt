use Rattle.std.proofs.Common.{◌≡◌, length, map, sum_by, take}
use Rattle.fl_column.specs.Operations.{ranges_of}
use Rattle.fl_ops.specs.BlockReads.{AreFirst}
use Rattle.fl_ops.proofs.by_blocks.ranges.items_of_ranges.Given as goal

-- the integers of the ranges so far
abbrev pub invariant-loop-range : goal.invariant-loop-range
invariant-loop-range g l =
    let part = ranges_of (take l.range-index l.ranges) l.reader.column in record {
      long : length l.slots.items ≡ sum_by (λ range. range.1) (take l.range-index l.ranges);
      first : AreFirst (map g.T.Number.value l.slots.items) (length part.items) part;
    }
