use Rattle.std.proofs.Common.{◌≡◌, refl}
use Rattle.fl_types.proofs.RefusalLaws.{Answers_view}
use Rattle.fl_array.specs.DeltaArrays.{DeltaArrayParts, tree_of_delta}
use Rattle.fl_array.specs.DeltaCasts.{cast_delta}
use Rattle.fl_array.specs.Trees.{column}
use Rattle.fl_array.proofs.InPlace.{delta_cast}
use Rattle.fl_array.proofs.RLELaws.{if_answered}
use Rattle.fl_array.proofs.delta.DeltaArray.cast_in_place.Goals as goal

pub returns-clause-column : goal.returns-clause-column
returns-clause-column c =
    Answers_view (λ (b : DeltaArrayParts). column (tree_of_delta b)) c.cast_with.result _ _ (delta_cast c.args.nullability c.args.self.now c.requires) c.cast_with.ensures

pub returns-clause-parts : goal.returns-clause-parts
returns-clause-parts c =
    let a = c.args.self.now in
    if_answered (λ (b : DeltaArrayParts). b ≡ record { bases = a.bases; deltas = a.deltas; parts = cast_delta c.args.nullability a.parts }) c.cast_with.result _ c.cast_with.ensures refl
