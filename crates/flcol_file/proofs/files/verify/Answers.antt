use Rattle.std.proofs.Common.{◌<◌, ◌∙◌, List, ap, length, subst}
use Rattle.fl_file.specs.FileReading.{foot_of_reader, source_can_fail}
use Rattle.fl_file.specs.declared.foot.ChunkEntry.{ChunkEntry}
use Rattle.flcol_file.specs.Chunked.{ChunkFacts}
use Rattle.flcol_file.proofs.FileLaws.{file_stops, next_held}
use Rattle.flcol_file.proofs.files.verify.Goals as goal

pub loop-k-preserved : goal.loop-k-preserved
loop-k-preserved g c =
    let foot = foot_of_reader c.args.reader.now in
    let below = subst (λ (es : List ChunkEntry). c.loop-k.k < length es) c.chunks-k-end.ensures c.loop-k-test.true in record {
      reader = λ bytes is. c.in_ok-verify_chunk.ensures.reader bytes (c.loop-k.invariant.reader bytes is);
      facts = c.in_ok-verify_chunk.ensures.facts ∙ c.loop-k.invariant.facts;
      foot = c.in_ok-verify_chunk.ensures.foot ∙ c.loop-k.invariant.foot;
      held = λ bytes is. next_held bytes foot (foot_of_reader c.loop-k.reader) c.loop-k.k c.loop-k.invariant.foot below (c.loop-k.invariant.held bytes is) (λ e at. c.in_ok-verify_chunk.ensures.verdict bytes e (c.loop-k.invariant.reader bytes is) at);
    }

pub returns-in_err-verify_chunk-clause-verdict : goal.returns-in_err-verify_chunk-clause-verdict
returns-in_err-verify_chunk-clause-verdict g c = λ bytes is.
    let foot = foot_of_reader c.args.reader.now in
    let below = subst (λ (es : List ChunkEntry). c.loop-k.k < length es) c.chunks-k-end.ensures c.loop-k-test.true in
    file_stops (source_can_fail g.R.ReadAt.can_fail c.loop-k.reader) (source_can_fail g.R.ReadAt.can_fail c.args.reader.now) bytes foot (foot_of_reader c.loop-k.reader) c.loop-k.k c.from_residual.result c.in_err-verify_chunk.field-0.0
    (ap (λ (f : ChunkFacts). f.can_fail) c.loop-k.invariant.facts) c.loop-k.invariant.foot below c.from_residual.ensures.1 (c.loop-k.invariant.held bytes is) (λ e at. c.in_err-verify_chunk.ensures.verdict bytes e (c.loop-k.invariant.reader bytes is) at)
