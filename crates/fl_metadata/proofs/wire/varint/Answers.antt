-- said here, where the search finds it too: a body that breaks it is refused at once
use Rattle.std.proofs.Common.{rules}
use Rattle.fl_metadata.proofs.wire.varint.Goals as goal

pub returns-clause-is : goal.returns-clause-is
returns-clause-is c = search rules
