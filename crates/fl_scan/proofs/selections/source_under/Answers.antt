use Rattle.fl_column.specs.Operations.{filter_of}
use Rattle.fl_array.specs.Trees.{column}
use Rattle.fl_scan.proofs.KeptAnswers.{kept_valid}
use Rattle.fl_scan.proofs.selections.source_under.Goals as goal

pub returns-then-len-le-MOST_ITEMS-clause-items : goal.returns-then-len-le-MOST_ITEMS-clause-items
returns-then-len-le-MOST_ITEMS-clause-items c = kept_valid (column c.args.array.now) (filter_of c.args.mask.now (column c.args.array.now)) c.in_ok-kept.kept c.in_ok-kept.ensures
