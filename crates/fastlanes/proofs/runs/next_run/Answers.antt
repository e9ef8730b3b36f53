-- said here, where the search finds it too: a body that breaks it is refused at once
use Rattle.std.proofs.Common.{rules}
use Rattle.fastlanes.proofs.runs.next_run.Goals as goal

pub returns-then-same : goal.returns-then-same
returns-then-same c = search rules
