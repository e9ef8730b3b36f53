use Rattle.fl_file.specs.FileReading.{foot_of_reader, source_can_fail}
use Rattle.flcol_file.proofs.FileLaws.{answer_held, column_at}
use Rattle.flcol_file.proofs.files.ReaderColumnChunks.array.Goals as goal

pub returns-clause-array : goal.returns-clause-array
returns-clause-array g c = λ columns column held found.
    let foot = foot_of_reader c.args.self.now in
    let a = column_at held.0 foot foot.chunks columns c.args.k column held.2 found in
    answer_held (source_can_fail g.R.ReadAt.can_fail c.args.self.now) held.0 foot a.entry column c.fitting_array.result a.holds (c.fitting_array.ensures.array held.0 a.entry held.1 a.found)
