use Rattle.fl_types.specs.Values.{scalar_parts}
use Rattle.fl_types.proofs.RefusalLaws.{Answers_view}
use Rattle.fl_array.specs.FoRArrays.{FoRArrayParts, tree_of_for}
use Rattle.fl_array.specs.Trees.{column}
use Rattle.fl_array.proofs.FoRSound.{global_slice}
use Rattle.fl_array.proofs.for_.FoRArray.slice_global.Goals as goal

pub returns-clause-column : goal.returns-clause-column
returns-clause-column c =
    let a = c.args.self.now in
    Answers_view (λ (b : FoRArrayParts). column (tree_of_for b)) c.with_encoded.result _ _
    (global_slice a (scalar_parts c.args.reference) c.args.part c.args.start c.args.end c.requires.same c.requires.part)
    c.with_encoded.ensures
