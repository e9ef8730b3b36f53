use Rattle.std.proofs.Common.{◌≡◌, ◌*◌, ◌≤◌, List, take}
use Rattle.std.specs.Prelude.{count_by}
use Rattle.fl_column.specs.Columns.{Column}
use Rattle.fl_file.specs.Ends.{LogGrowsBy}
use Rattle.fl_file.specs.Pruning.{passes}
use Rattle.fl_file.specs.declared.pruning.Pruning.{Pruning}
use Rattle.flcol_file.specs.Chunked.{places_of, valid_in}
use Rattle.flcol_file.specs.Plans.{ArePruningsOf, chunks_where, is_open}
use Rattle.flcol_file.proofs.scans.count_trusting.Given as goal

-- the chunks are the same; the items of those so far that pass, and the reads for them
abbrev pub invariant-loop-k : goal.invariant-loop-k
invariant-loop-k g l = record {
  facts : g.C.ColumnChunks.facts l.chunks ≡ g.C.ColumnChunks.facts l.initial.chunks;
  holds : (columns : List Column) → g.C.ColumnChunks.holds l.initial.chunks columns → g.C.ColumnChunks.holds l.chunks columns;
  counted : (columns : List Column) → g.C.ColumnChunks.holds l.initial.chunks columns → l.count ≡ count_by (passes l.test) (valid_in (take l.k columns));
  read : (columns : List Column) (plan : List Pruning) → g.C.ColumnChunks.holds l.initial.chunks columns → ArePruningsOf l.test (g.C.ColumnChunks.facts l.initial.chunks).statistics plan
      → LogGrowsBy (g.C.ColumnChunks.reads l.initial.chunks) (g.C.ColumnChunks.reads l.chunks) (places_of (g.C.ColumnChunks.facts l.initial.chunks) (chunks_where is_open 0 (take l.k plan)));
  few : l.count ≤ l.k * 18446744073709551615;
}
