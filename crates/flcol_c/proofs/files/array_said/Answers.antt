use Rattle.flcol_c.proofs.FileLaws.{said_given, said_refused}
use Rattle.flcol_c.proofs.files.array_said.Goals as goal

pub returns-in_err-chunk : goal.returns-in_err-chunk
returns-in_err-chunk c = said_refused c.args.bytes.now c.args.record.now c.from_residual.result c.in_err-chunk.field-0.0 c.from_residual.ensures.1 c.in_err-chunk.ensures

pub returns : goal.returns
returns c = said_given c.args.bytes.now c.in_ok-chunk.chunk.now c.args.record.now c.from_container.result c.in_ok-chunk.ensures.0 c.in_ok-chunk.ensures.1 c.from_container.ensures
