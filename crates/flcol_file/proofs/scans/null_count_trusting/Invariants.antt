use Rattle.std.proofs.Common.{◌≡◌, ◌*◌, ◌≤◌, List, take}
use Rattle.std.specs.Prelude.{count_by, is_none}
use Rattle.fl_column.specs.Columns.{Column}
use Rattle.flcol_file.specs.Chunked.{items_in}
use Rattle.flcol_file.proofs.scans.null_count_trusting.Given as goal

-- the nulls of the chunks so far
abbrev pub invariant-loop-k : goal.invariant-loop-k
invariant-loop-k g l = ((columns : List Column) → g.C.ColumnChunks.holds l.chunks columns → l.count ≡ count_by is_none (items_in (take l.k columns))) × (l.count ≤ l.k * 18446744073709551615)
