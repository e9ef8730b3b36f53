-- said here, where the search finds it too: a body that breaks it is refused at once
use Rattle.std.proofs.Common.{rules}
use Rattle.fl_column.proofs.compute.is_sorted.is_in_order.Goals as goal

pub returns-then-strict : goal.returns-then-strict
returns-then-strict g c = search rules
