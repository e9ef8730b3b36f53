-- said here, where the search finds it too: a body that breaks it is refused at once
use Rattle.std.proofs.Common.{rules}
use Rattle.fl_column.proofs.selection.names_item.Goals as goal

pub returns-else-index-ge0 : goal.returns-else-index-ge0
returns-else-index-ge0 g c = search rules
