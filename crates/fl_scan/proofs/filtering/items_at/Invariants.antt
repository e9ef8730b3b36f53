use Rattle.std.proofs.Common.{◌≡◌, map, take}
use Rattle.fl_types.specs.Bits.{kept}
use Rattle.fl_column.specs.Columns.{integers_in}
use Rattle.fl_scan.specs.Blocks.{items_before}
use Rattle.fl_scan.proofs.filtering.items_at.Given as goal

-- the items of the blocks so far
abbrev pub invariant-loop-j : goal.invariant-loop-j
invariant-loop-j g l = map g.T.Number.value l.taken.items ≡ kept (take (items_before l.reader l.j) l.bits) (take (items_before l.reader l.j) (integers_in l.reader.column))
