use Rattle.fl_encode.proofs.EncodingLaws.{chunked_memory}
use Rattle.fl_encode.proofs.parts.over_references.Goals as goal

pub returns-in_err-array : goal.returns-in_err-array
returns-in_err-array c =
    chunked_memory c.args.encoded c.args.references c.from_residual.result c.in_err-array.field-0.0 c.requires.sound c.requires.chunked c.from_residual.ensures.1 c.in_err-array.ensures
