use Rattle.std.proofs.Common.{◌∙◌, ap, get_or, inr}
use Rattle.fl_column.specs.Columns.{column_of_primitive}
use Rattle.fl_file.specs.FileReading.{foot_of_reader}
use Rattle.fl_file.specs.declared.foot.ChunkEntry.{ChunkEntry}
use Rattle.std.proofs.Common.{List}
use Rattle.fl_array.specs.Trees.{column}
use Rattle.flcol_file.proofs.FileLaws.{entry_is, no_entry, unverified, verified}
use Rattle.flcol_file.proofs.files.verify_chunk.Goals as goal

pub returns-then-eq-clause-verdict : goal.returns-then-eq-clause-verdict
returns-then-eq-clause-verdict g c = λ bytes e is at.
    let t = c.in_ok-array.array in
    let entry = ap (λ (es : List ChunkEntry). get_or es c.args.k no_entry) c.chunks.ensures ∙ entry_is (foot_of_reader c.args.reader.now).chunks c.args.k e no_entry at in
    (column t, verified bytes (foot_of_reader c.args.reader.now) e (get_or c.chunks.result.now c.args.k no_entry) t c.of.result (column_of_primitive c.in_ok-plain.plain) c.eq.result (c.in_ok-array.ensures.array bytes e is at) c.in_ok-array.ensures.typed c.in_ok-plain.ensures c.of.ensures.exact c.eq.ensures c.if-eq.true entry)

pub returns-clause-verdict : goal.returns-clause-verdict
returns-clause-verdict g c = λ bytes e is at.
    let t = c.in_ok-array.array in
    let entry = ap (λ (es : List ChunkEntry). get_or es c.args.k no_entry) c.chunks.ensures ∙ entry_is (foot_of_reader c.args.reader.now).chunks c.args.k e no_entry at in
    inr (unverified bytes (foot_of_reader c.args.reader.now) e (get_or c.chunks.result.now c.args.k no_entry) t c.of.result (column_of_primitive c.in_ok-plain.plain) c.eq.result (c.in_ok-array.ensures.array bytes e is at) c.in_ok-array.ensures.typed c.in_ok-plain.ensures c.of.ensures.exact c.eq.ensures c.if-eq.false entry)
