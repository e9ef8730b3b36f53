use Rattle.fl_column.specs.Columns.{column_of_constant, column_of_primitive}
use Rattle.fl_column.specs.Operations.{cast_column}
use Rattle.fl_array.specs.Trees.{column}
use Rattle.fl_ops.proofs.Answered.{answered_as}
use Rattle.fl_ops.proofs.plain_ops.cast.Goals as goal

pub returns-in-Some : goal.returns-in-Some
returns-in-Some c = answered_as (cast_column c.args.target) (column c.args.array.now) (column_of_primitive c.in-Some.plain.now) c.cast.result c.in-Some.ensures.column c.cast.ensures

pub returns-in-Some-as_constant : goal.returns-in-Some-as_constant
returns-in-Some-as_constant c = answered_as (cast_column c.args.target) (column c.args.array.now) (column_of_constant c.in-Some-as_constant.constant_array.now) c.cast-in-Some-as_constant.result c.in-Some-as_constant.ensures.column c.cast-in-Some-as_constant.ensures
