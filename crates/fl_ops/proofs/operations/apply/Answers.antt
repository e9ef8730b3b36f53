-- said here, where the search finds them too: a body that breaks them is refused at once
use Rattle.std.proofs.Common.{rules}
use Rattle.fl_ops.proofs.operations.apply.Goals as goal

pub returns-in-Take-clause-column : goal.returns-in-Take-clause-column
returns-in-Take-clause-column g = search rules

pub returns-in-Take-clause-tree : goal.returns-in-Take-clause-tree
returns-in-Take-clause-tree g = search rules

pub returns-in-Filter-clause-column : goal.returns-in-Filter-clause-column
returns-in-Filter-clause-column g = search rules

pub returns-in-Filter-clause-tree : goal.returns-in-Filter-clause-tree
returns-in-Filter-clause-tree g = search rules
