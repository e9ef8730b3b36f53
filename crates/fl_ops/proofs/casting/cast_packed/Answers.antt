use Rattle.std.proofs.Common.{◌∙◌, Ok, ap, sym}
use Rattle.std.specs.Prelude.{is_none}
use Rattle.std.specs.List.{list_any}
use Rattle.fl_types.specs.Types.{nullability_in}
use Rattle.fl_array.specs.BitPackedArrays.{tree_of_bitpacked}
use Rattle.fl_array.specs.Trees.{Tree, column}
use Rattle.fl_ops.proofs.CastedTrees.{null_kept, packed_cast_ok}
use Rattle.fl_ops.proofs.casting.cast_packed.Goals as goal

pub returns-clause-column : goal.returns-clause-column
returns-clause-column c =
    let kept = null_kept (nullability_in c.args.target) (list_any is_none (column (tree_of_bitpacked c.args.array.now)).items) (rw c.nullability-nullability.ensures at (sym c.has_null_against-refused.ensures ∙ c.if-refused.false)) in
    packed_cast_ok c.args.array.now c.args.target (column (tree_of_bitpacked c.in_ok-cast.cast)) c.requires.typed c.bitpacked_items_are_in_range.ensures kept (rw c.nullability-nullability.ensures at c.in_ok-cast.ensures.column)
    ∙ ap (λ (t : Tree). Ok (column t)) (sym c.into_array.ensures)
