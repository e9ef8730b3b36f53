use Rattle.std.proofs.Common.{ℕ}
use Rattle.fl_encode.specs.SchemeShapes.{shape}
use Rattle.fl_encode.specs.Texts.{says_children}
use Rattle.fl_encode.proofs.TextLaws.{never_runs_out, next_scheme}
use Rattle.fl_encode.proofs.text.reading.+read.Goals as goal

pub read_scheme-returns-clause-found : goal.read_scheme-returns-clause-found
read_scheme-returns-clause-found t c = next_scheme (λ s. (shape s.0, s.1.now)) c.read_children.result c.args.depth c.args.text.now c.in_ok-head.rest.now c.in_ok-head.head c.if-depth-eq0.false c.in_ok-head.ensures.found c.read_children.ensures.found

pub read_scheme-returns-in_err-head-clause-memory : goal.read_scheme-returns-in_err-head-clause-memory
read_scheme-returns-in_err-head-clause-memory t c = never_runs_out ℕ (says_children c.args.text.now) c.from_residual.result c.in_err-head.field-0.0 c.from_residual.ensures.1 c.in_err-head.ensures.memory
