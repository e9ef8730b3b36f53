use Rattle.std.proofs.Common.{◌≡◌, ◌∙◌, Ok, ap, rules, sym}
use Rattle.fl_array.specs.FoRArrays.{for_tree, offset_of_references}
use Rattle.fl_array.specs.Trees.{Tree, column}
use Rattle.fl_ops.proofs.CastedTrees.{chunked_cast_ok}
use Rattle.fl_ops.proofs.casting.cast_over_chunked.Goals as goal

pub returns-clause-column : goal.returns-clause-column
returns-clause-column c =
    let made : c.into_array.result ≡ for_tree c.args.part c.args.array.now.references = search rules in
    chunked_cast_ok c.args.array.now c.args.part c.args.references.now (offset_of_references c.args.array.now.references) c.args.target c.requires.same c.requires.typed c.requires.fit c.requires.part ∙ ap (λ (t : Tree). Ok (column t)) (sym made)
