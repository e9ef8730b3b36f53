use Rattle.std.proofs.Common.{◌≡◌, ◌∙◌, Ok, ap, rules, sym}
use Rattle.fl_types.specs.Values.{scalar_parts}
use Rattle.fl_array.specs.Trees.{FoRGlobal, Tree, column}
use Rattle.fl_ops.proofs.SelectedLaws.{selected_over}
use Rattle.fl_ops.proofs.selection.over_selected.Goals as goal

pub returns-clause-column : goal.returns-clause-column
returns-clause-column c =
    let made : c.into_array.result ≡ FoRGlobal c.args.part (scalar_parts c.args.reference) = search rules in
    selected_over c.args.selection c.args.array.now c.args.part (scalar_parts c.args.reference) c.requires.same c.requires.part ∙ ap (λ (t : Tree). Ok (column t)) (sym made)
