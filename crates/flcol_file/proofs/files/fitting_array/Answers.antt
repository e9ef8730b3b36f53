use Rattle.std.proofs.Common.{[], ◌∷◌, ◌∙◌, List, ap, get_or}
use Rattle.fl_file.specs.declared.foot.ChunkEntry.{ChunkEntry}
use Rattle.fl_types.specs.declared.dtype.DType.TheVariants.{Primitive}
use Rattle.fl_file.specs.FileReading.{foot_of_reader, reads_of_source, source_can_fail}
use Rattle.flcol_file.specs.Files.{facts_of_reader}
use Rattle.flcol_file.proofs.FileLaws.{entry_is, given, gives_error, gives_refused, no_entry, types_same}
use Rattle.flcol_file.proofs.ReadLaws.{has_read, has_read_front}
use Rattle.flcol_file.proofs.files.fitting_array.Goals as goal

pub returns-in_err-stored_array-clause-array : goal.returns-in_err-stored_array-clause-array
returns-in_err-stored_array-clause-array g c = λ bytes e is at.
    let fails = source_can_fail g.R.ReadAt.can_fail c.args.reader.now in
    let foot = foot_of_reader c.args.reader.now in
    let error = c.in_err-stored_array.field-0.0 in
    gives_error fails bytes foot e c.from_residual.result error c.from_residual.ensures.1 (gives_refused fails bytes foot e error (c.in_err-stored_array.ensures.array bytes e is at))

pub returns-in_err-stored_array-clause-read : goal.returns-in_err-stored_array-clause-read
returns-in_err-stored_array-clause-read g c =
    has_read_front c.from_residual.result c.in_err-stored_array.field-0.0 (facts_of_reader g.R.ReadAt.can_fail c.args.reader.now) (reads_of_source g.R.ReadAt.reads c.args.reader.now) (reads_of_source g.R.ReadAt.reads c.stored_array.new.reader) (c.args.k ∷ []) c.from_residual.ensures.1 c.in_err-stored_array.ensures.read

pub returns-clause-read : goal.returns-clause-read
returns-clause-read g c =
    has_read c.fitting.result (facts_of_reader g.R.ReadAt.can_fail c.args.reader.now) (reads_of_source g.R.ReadAt.reads c.args.reader.now) (reads_of_source g.R.ReadAt.reads c.stored_array.new.reader) (c.args.k ∷ []) c.in_ok-stored_array.ensures.read

pub returns-clause-array : goal.returns-clause-array
returns-clause-array g c = λ bytes e is at.
    let fails = source_can_fail g.R.ReadAt.can_fail c.args.reader.now in
    let foot = foot_of_reader c.args.reader.now in
    let d = get_or c.chunks.result.now c.args.k no_entry in
    let entry = ap (λ (es : List ChunkEntry). get_or es c.args.k no_entry) c.chunks.ensures ∙ entry_is foot.chunks c.args.k e no_entry at in
    given fails bytes foot e c.in_ok-stored_array.field-0 (Primitive c.ptype.result c.nullability.result) d.statistics.len c.fitting.result (c.in_ok-stored_array.ensures.array bytes e is at) (types_same c.ptype.result foot.ptype c.nullability.result foot.nullability c.ptype.ensures c.nullability.ensures)
    (ap (λ (x : ChunkEntry). x.statistics.len) entry) c.fitting.ensures.same c.fitting.ensures.refused
