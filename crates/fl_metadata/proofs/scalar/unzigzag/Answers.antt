-- said here, where the search finds it too: a body that breaks it is refused at once
use Rattle.std.proofs.Common.{rules}
use Rattle.fl_metadata.proofs.scalar.unzigzag.Goals as goal

pub returns-else-number-eq0 : goal.returns-else-number-eq0
returns-else-number-eq0 c = search rules
