use Rattle.std.proofs.Common.{◌≡◌, map, option_map, take}
use Rattle.fl_column.specs.Columns.{column_of_primitive}
use Rattle.fl_serde.proofs.plain.items_of.Given as goal

-- the items so far
abbrev pub invariant-loop-i : goal.invariant-loop-i
invariant-loop-i g l = map (option_map g.T.Number.value) l.items.items ≡ take l.i (column_of_primitive l.array).items
