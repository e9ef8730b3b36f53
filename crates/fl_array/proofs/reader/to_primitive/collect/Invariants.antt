use Rattle.std.proofs.Common.{◌≡◌, ◌+◌, ◌-◌, ◌*◌, length, min}
use Rattle.fl_bitpacking.specs.Blocks.{value_at}
use Rattle.fl_array.specs.Readers.{AreItemsFrom}
use Rattle.fl_array.proofs.reader.to_primitive.collect.Given as goal

-- the items of the steps so far
abbrev pub invariant-loop-k : goal.invariant-loop-k
invariant-loop-k g l = record {
  long : length l.items.items ≡ min (4096 * l.k) (l.offset + l.len) - l.offset;
  done : AreItemsFrom 0 (length l.items.items) (value_at g.T.Number.value l.items.items) l.reader.column;
}
