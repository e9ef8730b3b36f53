use Rattle.std.proofs.Common.{◌≡◌, map, take}
use Rattle.fl_column.specs.Columns.{column_of_bools}
use Rattle.flcol_engine.specs.Printing.{text_of_items}
use Rattle.flcol_engine.proofs.printing.print_bools.Given as goal

-- the items so far are printed
abbrev pub invariant-loop-i : goal.invariant-loop-i
invariant-loop-i l = l.text.items ≡ text_of_items (column_of_bools l.array).dtype (take l.i (column_of_bools l.array).items)
