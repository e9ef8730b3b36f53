-- said here, where the search finds them too: a body that breaks them is refused at once
use Rattle.std.proofs.Common.{rules}
use Rattle.fl_codec.proofs.delta.first_row.Goals as goal

pub returns-clause-row : goal.returns-clause-row
returns-clause-row g c = search rules

pub returns-clause-long : goal.returns-clause-long
returns-clause-long g c = search rules
