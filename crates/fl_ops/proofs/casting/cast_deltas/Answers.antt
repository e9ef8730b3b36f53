use Rattle.std.proofs.Common.{◌∙◌, Ok, ap, sym}
use Rattle.fl_array.specs.DeltaArrays.{tree_of_delta}
use Rattle.fl_array.specs.Trees.{Tree, column}
use Rattle.fl_ops.proofs.CastedTrees.{delta_cast_ok}
use Rattle.fl_ops.proofs.casting.cast_deltas.Goals as goal

pub returns-clause-column : goal.returns-clause-column
returns-clause-column c =
    delta_cast_ok c.args.array.now c.args.target (column (tree_of_delta c.in_ok-cast.cast)) c.delta_is_well_formed.ensures c.delta_items_are_in_range.ensures c.requires (rw c.nullability.ensures at c.in_ok-cast.ensures.column)
    ∙ ap (λ (t : Tree). Ok (column t)) (sym c.into_array.ensures)
