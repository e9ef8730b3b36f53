use Rattle.flcol_engine.proofs.PrintLemmas.{line_first, line_last}
use Rattle.flcol_engine.proofs.text.line_ends.Goals as goal

pub returns : goal.returns
returns c = record { inner = line_first; last = line_last }
