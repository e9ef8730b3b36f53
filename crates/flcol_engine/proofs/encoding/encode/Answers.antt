use Rattle.std.proofs.Common.{subst}
use Rattle.fl_encode.specs.Encodings.{EncodesAs}
use Rattle.fl_encode.specs.Shapes.{Shape}
use Rattle.flcol_engine.proofs.encoding.encode.Goals as goal

pub returns : goal.returns
returns c = subst (λ (s : Shape). EncodesAs s c.args.array c.encode.result) c.in_ok-scheme.ensures.scheme c.encode.ensures
