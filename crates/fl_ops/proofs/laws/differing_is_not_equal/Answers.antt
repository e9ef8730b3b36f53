use Rattle.fl_types.specs.Values.{scalar_parts}
use Rattle.fl_column.specs.Columns.{column_of_bools}
use Rattle.fl_array.specs.Trees.{column}
use Rattle.fl_ops.proofs.NegatedLaws.{unequal_is_negated}
use Rattle.fl_ops.proofs.laws.differing_is_not_equal.Goals as goal

pub returns-clause-differing : goal.returns-clause-differing
returns-clause-differing c = unequal_is_negated (scalar_parts c.args.constant.now) (column c.args.array.now) (column_of_bools c.in_ok-equal.equal) (column_of_bools c.in_ok-differing.differing) c.in_ok-equal.ensures c.in_ok-differing.ensures
