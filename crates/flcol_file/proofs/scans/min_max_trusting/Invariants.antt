use Rattle.std.proofs.Common.{◌≡◌, List, take}
use Rattle.fl_file.specs.Statistics.{extremes_among}
use Rattle.fl_column.specs.Columns.{Column}
use Rattle.flcol_file.specs.Chunked.{valid_in}
use Rattle.flcol_file.proofs.scans.min_max_trusting.Given as goal

-- the least and the greatest of the chunks so far
abbrev pub invariant-loop-k : goal.invariant-loop-k
invariant-loop-k g l = ((columns : List Column) → g.C.ColumnChunks.holds l.chunks columns → l.extremes ≡ extremes_among (valid_in (take l.k columns)))
