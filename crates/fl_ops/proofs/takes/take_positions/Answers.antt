use Rattle.std.proofs.Common.{◌∙◌, Result, ap, subst}
use Rattle.fl_types.specs.declared.error.FastLanesError.{FastLanesError}
use Rattle.fl_types.specs.Refusals.{Answers}
use Rattle.fl_column.specs.Columns.{Column, PrimitiveParts, column_of_primitive}
use Rattle.fl_column.specs.Operations.{take_column}
use Rattle.fl_array.specs.BitPackedArrays.{tree_of_bitpacked}
use Rattle.fl_array.specs.Trees.{column}
use Rattle.fl_ops.proofs.PositionLaws.{packed_integers, taken_at}
use Rattle.fl_ops.proofs.takes.take_positions.Goals as goal

pub returns : goal.returns
returns c =
    let items = column (tree_of_bitpacked c.args.array.now) in
    subst (λ (m : Result Column FastLanesError). Answers column_of_primitive c.take.result m)
    (ap (λ (p : PrimitiveParts). take_column (column_of_primitive p) items) c.non_nullable.ensures ∙ taken_at c.args.positions.items items (packed_integers c.args.array.now) c.requires)
    c.take.ensures
