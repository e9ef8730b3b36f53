-- said here, where the search finds it too: a body that breaks it is refused at once
use Rattle.std.proofs.Common.{rules}
use Rattle.fl_column.proofs.compute.is_sorted.is_item_below.Goals as goal

pub returns-in_default : goal.returns-in_default
returns-in_default g c = search rules
