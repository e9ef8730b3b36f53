use Rattle.std.proofs.Common.{arith, sym}
use Rattle.flcol_engine.proofs.SliceLemmas.{from_index}
use Rattle.flcol_engine.proofs.WordLemmas.{halves_here, no_halves}
use Rattle.flcol_engine.proofs.arg_parts.split_once.Goals as goal

pub returns-then-b-separator-clause-halves : goal.returns-then-b-separator-clause-halves
returns-then-b-separator-clause-halves c = rw from_index (sym (halves_here c.args.separator c.args.text.now c.loop-i.i c.loop-i-test.true c.loop-i.invariant c.if-b-separator.true))

pub returns-clause-halves : goal.returns-clause-halves
returns-clause-halves c = sym (no_halves c.args.separator c.args.text.now (λ k h. c.loop-i.invariant k (omega arith)))
