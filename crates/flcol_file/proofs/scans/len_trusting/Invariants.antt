use Rattle.std.proofs.Common.{◌≡◌, ◌*◌, ◌≤◌, List, length, take}
use Rattle.fl_column.specs.Columns.{Column}
use Rattle.flcol_file.specs.Chunked.{items_in}
use Rattle.flcol_file.proofs.scans.len_trusting.Given as goal

-- the items of the chunks so far
abbrev pub invariant-loop-k : goal.invariant-loop-k
invariant-loop-k g l = ((columns : List Column) → g.C.ColumnChunks.holds l.chunks columns → l.len ≡ length (items_in (take l.k columns))) × (l.len ≤ l.k * 18446744073709551615)
