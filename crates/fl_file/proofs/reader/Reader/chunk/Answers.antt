use Rattle.std.proofs.Common.{◌≡◌, ◌∙◌, ap, drop, length, sym, take}
use Rattle.std.proofs.lemmas.List.{get_or_read}
use Rattle.std.proofs.lemmas.Option.{get_or_from_slice_get}
use Rattle.std.proofs.lemmas.Result.{err_from_is_err_and}
use Rattle.fl_file.specs.FileReading.{chunk_of}
use Rattle.fl_file.proofs.ReaderLaws.{chunk_bad, chunk_good, chunk_within, read_failed}
use Rattle.fl_file.proofs.reader.Reader.chunk.Goals as goal

pub returns-in_err-chunk-clause-chunk : goal.returns-in_err-chunk-clause-chunk
returns-in_err-chunk-clause-chunk g c = λ bytes e is at.
    let chunks = c.args.self.now.foot.chunks.items in
    let entry = c.index-entry.result.now in
    let within = chunk_within 4 (length bytes) chunks c.args.k entry is.places c.requires.range c.index-entry.ensures in
    let failed = c.in_err-chunk.ensures.read bytes is.reads within in
    let p = err_from_is_err_and c.from_residual.result c.from_residual.ensures.1 in
    rw (p.1, p.2) (read_failed (g.R.ReadAt.can_fail c.args.self.now.source) c.in_err-chunk.field-0.0 (take entry.size (drop entry.offset bytes)) (chunk_of bytes e) failed)

pub returns-then-crc32c-entry-clause-chunk : goal.returns-then-crc32c-entry-clause-chunk
returns-then-crc32c-entry-clause-chunk g c = λ bytes e is at.
    let chunks = c.args.self.now.foot.chunks.items in
    let entry = c.index-entry.result.now in
    let same : c.index-entry.result.now ≡ e = get_or_read chunks c.args.k entry c.requires.range c.index-entry.ensures e ∙ get_or_from_slice_get chunks c.args.k e e at in
    let within = chunk_within 4 (length bytes) chunks c.args.k entry is.places c.requires.range c.index-entry.ensures in
    let read = c.in_ok-chunk.ensures.read bytes is.reads within in
    let items : c.in_ok-chunk.chunk.items ≡ take c.index-entry.result.now.size (drop c.index-entry.result.now.offset bytes) = cc in
    ap (chunk_of bytes) (sym same) ∙ chunk_good bytes c.in_ok-chunk.chunk.items entry c.crc32c.result items (rw c.deref.ensures.value at c.crc32c.ensures) c.if-crc32c-entry.true

pub returns-else-crc32c-entry-clause-chunk : goal.returns-else-crc32c-entry-clause-chunk
returns-else-crc32c-entry-clause-chunk g c = λ bytes e is at.
    let chunks = c.args.self.now.foot.chunks.items in
    let entry = c.index-entry.result.now in
    let same : c.index-entry.result.now ≡ e = get_or_read chunks c.args.k entry c.requires.range c.index-entry.ensures e ∙ get_or_from_slice_get chunks c.args.k e e at in
    let within = chunk_within 4 (length bytes) chunks c.args.k entry is.places c.requires.range c.index-entry.ensures in
    let read = c.in_ok-chunk.ensures.read bytes is.reads within in
    let items : c.in_ok-chunk.chunk.items ≡ take c.index-entry.result.now.size (drop c.index-entry.result.now.offset bytes) = cc in
    ap (chunk_of bytes) (sym same) ∙ chunk_bad bytes c.in_ok-chunk.chunk.items entry c.crc32c.result items (rw c.deref.ensures.value at c.crc32c.ensures) c.if-crc32c-entry.false
