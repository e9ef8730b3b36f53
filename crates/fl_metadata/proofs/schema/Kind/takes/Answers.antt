-- said here, where the search finds it too: a body that breaks it is refused at once
use Rattle.std.proofs.Common.{rules}
use Rattle.fl_metadata.proofs.schema.Kind.takes.Goals as goal

pub returns-in-Unknown-default : goal.returns-in-Unknown-default
returns-in-Unknown-default c = search rules
