use Rattle.std.proofs.Common.{arith}
use Rattle.flcol_engine.proofs.SliceLemmas.{from_index}
use Rattle.flcol_engine.proofs.TextLemmas.{line_ends, one_line}
use Rattle.flcol_engine.proofs.text.first_line.Goals as goal

pub returns-then-b-eq10-clause-lines : goal.returns-then-b-eq10-clause-lines
returns-then-b-eq10-clause-lines c = rw from_index (line_ends c.args.text.now c.loop-i.i c.loop-i-test.true c.loop-i.invariant c.if-b-eq10.true)

pub returns-clause-lines : goal.returns-clause-lines
returns-clause-lines c = one_line c.args.text.now c.requires (λ k h. c.loop-i.invariant k (omega arith))
