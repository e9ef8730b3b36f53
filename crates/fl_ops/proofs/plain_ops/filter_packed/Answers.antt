use Rattle.std.proofs.Common.{subst, sym}
use Rattle.std.specs.Prelude.{Result}
use Rattle.fl_types.specs.declared.error.FastLanesError.{FastLanesError}
use Rattle.fl_types.specs.declared.mask.Mask.TheVariants.{Values}
use Rattle.fl_types.specs.Refusals.{Answers}
use Rattle.fl_column.specs.Columns.{Column, column_of_primitive}
use Rattle.fl_array.specs.BitPackedArrays.{tree_of_bitpacked}
use Rattle.fl_array.specs.Trees.{column}
use Rattle.fl_ops.proofs.PositionLaws.{filter_made, packed_integers}
use Rattle.fl_ops.proofs.plain_ops.filter_packed.Goals as goal

pub returns : goal.returns
returns c =
    subst (λ (m : Result Column FastLanesError). Answers column_of_primitive c.filter.result m)
    (sym (filter_made (Values c.args.bits.now) (column (tree_of_bitpacked c.args.array.now)) (packed_integers c.args.array.now) c.requires)) c.filter.ensures
