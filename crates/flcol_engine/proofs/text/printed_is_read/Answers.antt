use Rattle.flcol_engine.proofs.PrintLemmas.{printed_column}
use Rattle.flcol_engine.proofs.text.printed_is_read.Goals as goal

pub returns : goal.returns
returns c = printed_column c.args.ptype c.args.nullability
