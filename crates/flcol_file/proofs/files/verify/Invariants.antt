use Rattle.std.proofs.Common.{◌≡◌, List, ℕ, take}
use Rattle.fl_column.specs.Columns.{Column}
use Rattle.fl_file.specs.FileReading.{IsReaderOf, foot_of_reader}
use Rattle.flcol_file.specs.Files.{HoldEach, facts_of_reader}
use Rattle.flcol_file.proofs.files.verify.Given as goal

-- the file is the same; the chunks so far hold columns
abbrev pub invariant-loop-k : goal.invariant-loop-k
invariant-loop-k g l = record {
  reader : (bytes : List ℕ) → IsReaderOf g.R.ReadAt.contents l.initial.reader bytes → IsReaderOf g.R.ReadAt.contents l.reader bytes;
  facts : facts_of_reader g.R.ReadAt.can_fail l.reader ≡ facts_of_reader g.R.ReadAt.can_fail l.initial.reader;
  foot : foot_of_reader l.reader ≡ foot_of_reader l.initial.reader;
  held : (bytes : List ℕ) → IsReaderOf g.R.ReadAt.contents l.initial.reader bytes → (columns : List Column) × HoldEach bytes (foot_of_reader l.initial.reader) (take l.k (foot_of_reader l.initial.reader).chunks) columns;
}
