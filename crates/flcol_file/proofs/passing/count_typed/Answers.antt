use Rattle.std.proofs.Common.{◌∙◌, ap, rules}
use Rattle.std.specs.Prelude.{FitsSigned}
use Rattle.std.specs.Int.{w128}
use Rattle.std.proofs.lemmas.Int.{to_z-of_z}
use Rattle.fl_array.specs.Trees.{column}
use Rattle.fl_scan.specs.Constants.{integer_in}
use Rattle.flcol_file.proofs.PassingLaws.{typed_count}
use Rattle.flcol_file.proofs.passing.count_typed.Goals as goal

pub returns : goal.returns
returns c =
    let f : FitsSigned w128 c.args.first = search rules in
    let g : FitsSigned w128 c.args.last = search rules in
    let first = ap integer_in c.primitive-lower.ensures ∙ (c.value_of.ensures.value ∙ to_z-of_z w128 c.args.first f) in
    let last = ap integer_in c.primitive-upper.ensures ∙ (c.value_of-2.ensures.value ∙ to_z-of_z w128 c.args.last g) in
    typed_count (column c.args.array.now) c.args.ptype _ _ c.args.first c.args.last c.count_between.result c.requires.typed first last c.count_between.ensures
