-- said here, where the search finds it too: a body that breaks it is refused at once
use Rattle.std.proofs.Common.{rules}
use Rattle.fl_ops.proofs.queries.scalar_within.Goals as goal

pub returns-then-i-len : goal.returns-then-i-len
returns-then-i-len c = search rules
