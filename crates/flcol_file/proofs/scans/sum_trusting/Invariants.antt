use Rattle.std.proofs.Common.{◌≡◌, ◌≤◌, ℕ, List, take}
use Rattle.fl_file.specs.Statistics.{total}
use Rattle.fl_column.specs.Columns.{Column}
use Rattle.flcol_file.specs.Chunked.{SumFits, valid_in}
use Rattle.flcol_file.proofs.scans.sum_trusting.Given as goal

-- the sum of the chunks so far, and that those of the first ones of them fit
abbrev pub invariant-loop-k : goal.invariant-loop-k
invariant-loop-k g l = (columns : List Column) → g.C.ColumnChunks.holds l.chunks columns → (l.sum ≡ total (valid_in (take l.k columns))) × ((j : ℕ) → j ≤ l.k → SumFits columns j)
