use Rattle.std.proofs.Common.{◌≡◌, ◌∙◌, w32, to_z, of_z, map-id, rules, subst, sym}
use Rattle.std.specs.Prelude.{IfSome}
use Rattle.fl_array.specs.Trees.{column}
use Rattle.fl_scan.specs.Membership.{is_one_of}
use Rattle.flcol_c.specs.Answering.{AreAnswers}
use Rattle.flcol_c.proofs.calls.queries.flcol_is_in_i8.Goals as goal

pub returns-clause-tested : goal.returns-clause-tested
returns-clause-tested c = λ done.
    let same : to_z w32 (of_z w32 c.is_in.result) ≡ c.is_in.result = search rules in
    subst (λ list. IfSome c.args.array.now.tree (λ t. AreAnswers (is_one_of list) (column t) c.is_in.new.bits c.is_in.new.validity)) (map-id c.args.list.now) (c.is_in.ensures.tested (sym same ∙ done))
