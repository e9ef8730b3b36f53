use Rattle.std.proofs.Common.{◌≡◌, ◌≤◌, take, drop}
use Rattle.fl_column.specs.Columns.{column_of_primitive}
use Rattle.fl_bitpacking.specs.Taken.{items_named, named_positions}
use Rattle.fl_bitpacking.proofs.compute.take.Taking.items_between_nulls.Given as goal

-- the items so far, and the positions that are still to come
abbrev pub invariant-loop-k : goal.invariant-loop-k
invariant-loop-k g l = record {
  taken : l.taken ≡ items_named l.self (take l.k (column_of_primitive l.indices).items);
  few : l.next ≤ l.k;
  rest : named_positions (drop l.k (column_of_primitive l.indices).items) ≡ drop l.next l.self.positions.now;
}
