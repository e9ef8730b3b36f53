use Rattle.std.proofs.Common.{◌≡◌, ◌∙◌, Ok, ap, rules, sym}
use Rattle.fl_types.specs.Values.{scalar_parts}
use Rattle.fl_array.specs.Trees.{FoRGlobal, Tree, column}
use Rattle.fl_ops.proofs.CastedTrees.{for_cast_ok}
use Rattle.fl_ops.proofs.casting.cast_over.Goals as goal

pub returns-clause-column : goal.returns-clause-column
returns-clause-column c =
    let made : c.into_array.result ≡ FoRGlobal c.args.part (scalar_parts c.args.reference) = search rules in
    for_cast_ok c.args.array.now c.args.part (scalar_parts c.args.reference) c.args.target c.requires.same c.requires.typed c.requires.fit c.requires.part ∙ ap (λ (t : Tree). Ok (column t)) (sym made)
