use Rattle.std.proofs.Common.{[], ◌∷◌, ℕ, List, false, subst, sym}
use Rattle.fl_file.specs.Ends.{LogGrowsBy, LogGrowsByFront, Place}
use Rattle.fl_file.specs.FileReading.{foot_of_reader, reads_of_source, source_can_fail}
use Rattle.flcol_file.specs.Files.{array_at, facts_of_reader}
use Rattle.flcol_file.specs.Chunks.{array_of}
use Rattle.flcol_file.specs.Outcomes.{AnswersFrom, of_file}
use Rattle.flcol_file.proofs.FileLaws.{entry_found, no_entry, not_read, of_chunk, with_error}
use Rattle.flcol_file.proofs.ReadLaws.{has_read, has_read_front, place_here}
use Rattle.std.proofs.Common.{get_or}
use Rattle.flcol_file.proofs.files.stored_array.Goals as goal

pub returns-in_err-bytes-clause-array : goal.returns-in_err-bytes-clause-array
returns-in_err-bytes-clause-array g c = λ bytes e is at.
    let fails = source_can_fail g.R.ReadAt.can_fail c.args.reader.now in
    let error = c.in_err-bytes.field-0.0 in
    with_error fails c.from_residual.result (of_file error) (array_at bytes e) c.from_residual.ensures.1 (not_read fails error bytes e (c.in_err-bytes.ensures.chunk bytes e is at))

pub returns-in_err-bytes-clause-read : goal.returns-in_err-bytes-clause-read
returns-in_err-bytes-clause-read g c =
    let es = (foot_of_reader c.args.reader.now).chunks in
    let entry = get_or es c.args.k no_entry in
    let found = entry_found es c.args.k no_entry c.requires in
    has_read_front c.from_residual.result (of_file c.in_err-bytes.field-0.0) (facts_of_reader g.R.ReadAt.can_fail c.args.reader.now) _ _ (c.args.k ∷ []) c.from_residual.ensures.1
    (subst (λ (p : Place). LogGrowsByFront (reads_of_source g.R.ReadAt.reads c.args.reader.now) (reads_of_source g.R.ReadAt.reads c.chunk.new.self) (p ∷ [])) (sym (place_here es c.args.k entry found)) (c.in_err-bytes.ensures.unread entry found))

pub returns-clause-array : goal.returns-clause-array
returns-clause-array g c = λ bytes e is at.
    of_chunk (source_can_fail g.R.ReadAt.can_fail c.args.reader.now) bytes e c.in_ok-bytes.bytes.items c.read_chunk-2.result (c.in_ok-bytes.ensures.chunk bytes e is at)
    (subst (λ (b : List ℕ). AnswersFrom false (λ a. a) c.read_chunk-2.result (array_of b)) c.in_ok-from_vec.ensures.ok c.read_chunk-2.ensures)

pub returns-clause-read : goal.returns-clause-read
returns-clause-read g c =
    let es = (foot_of_reader c.args.reader.now).chunks in
    let entry = get_or es c.args.k no_entry in
    let found = entry_found es c.args.k no_entry c.requires in
    has_read c.read_chunk-2.result (facts_of_reader g.R.ReadAt.can_fail c.args.reader.now) _ _ (c.args.k ∷ [])
    (subst (λ (p : Place). LogGrowsBy (reads_of_source g.R.ReadAt.reads c.args.reader.now) (reads_of_source g.R.ReadAt.reads c.chunk.new.self) (p ∷ [])) (sym (place_here es c.args.k entry found)) (c.in_ok-bytes.ensures.read entry found))

pub returns-in_err-from_vec-clause-read : goal.returns-in_err-from_vec-clause-read
returns-in_err-from_vec-clause-read g c =
    let es = (foot_of_reader c.args.reader.now).chunks in
    let entry = get_or es c.args.k no_entry in
    let found = entry_found es c.args.k no_entry c.requires in
    has_read c.from_residual-in_err-from_vec.result (facts_of_reader g.R.ReadAt.can_fail c.args.reader.now) (reads_of_source g.R.ReadAt.reads c.args.reader.now) (reads_of_source g.R.ReadAt.reads c.chunk.new.self) (c.args.k ∷ [])
    (subst (λ (p : Place). LogGrowsBy (reads_of_source g.R.ReadAt.reads c.args.reader.now) (reads_of_source g.R.ReadAt.reads c.chunk.new.self) (p ∷ [])) (sym (place_here es c.args.k entry found)) (c.in_ok-bytes.ensures.read entry found))
