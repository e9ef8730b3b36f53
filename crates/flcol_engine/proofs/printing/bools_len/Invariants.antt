use Rattle.std.proofs.Common.{◌≡◌, length, take}
use Rattle.fl_column.specs.Columns.{column_of_bools}
use Rattle.flcol_engine.specs.Printing.{text_of_items}
use Rattle.flcol_engine.proofs.printing.bools_len.Given as goal

-- the lines so far
abbrev pub invariant-loop-i : goal.invariant-loop-i
invariant-loop-i l = l.total ≡ length (text_of_items (column_of_bools l.array).dtype (take l.i (column_of_bools l.array).items))
