-- said here, where the search finds it too: a body that breaks it is refused at once
use Rattle.std.proofs.Common.{rules}
use Rattle.fl_metadata.proofs.writing.Slot.number.Goals as goal

pub returns : goal.returns
returns c = search rules
