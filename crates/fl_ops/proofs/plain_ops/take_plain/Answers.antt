use Rattle.std.proofs.Common.{ap, rules, sym}
use Rattle.fl_column.specs.Columns.{column_of_constant, column_of_primitive}
use Rattle.fl_column.specs.Operations.{take_column}
use Rattle.fl_array.specs.BitPackedArrays.{tree_of_bitpacked}
use Rattle.fl_array.specs.Trees.{column}
use Rattle.fl_ops.proofs.Answered.{answered_as}
use Rattle.fl_ops.proofs.plain_ops.take_plain.Goals as goal

pub returns-in-Some : goal.returns-in-Some
returns-in-Some c = answered_as (take_column (column_of_primitive c.args.indices.now)) (column c.args.array.now) (column_of_primitive c.in-Some.plain.now) c.take.result c.in-Some.ensures.column c.take.ensures

pub returns-in-Some-as_constant : goal.returns-in-Some-as_constant
returns-in-Some-as_constant c = answered_as (take_column (column_of_primitive c.args.indices.now)) (column c.args.array.now) (column_of_constant c.in-Some-as_constant.constant_array.now) _ c.in-Some-as_constant.ensures.column (search rules)

pub returns-in-Some-as_bitpacked : goal.returns-in-Some-as_bitpacked
returns-in-Some-as_bitpacked c = answered_as (take_column (column_of_primitive c.args.indices.now)) (column c.args.array.now) (column (tree_of_bitpacked c.in-Some-as_bitpacked.packed.now)) _ (ap column (sym c.in-Some-as_bitpacked.ensures.tree)) (search rules)
