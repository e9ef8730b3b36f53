use Rattle.std.proofs.Common.{ap, ◌∙◌}
use Rattle.fl_array.proofs.EncodedRLE.{ok_is}
use Rattle.fl_column.specs.Queries.{are_constant}
use Rattle.fl_compress.specs.Choices.{part_of, with_slots}
use Rattle.fl_compress.proofs.AnswerLaws.{gives}
use Rattle.fl_compress.proofs.ListLaws.{constant_differs, constant_there, no_list}
use Rattle.fl_compress.proofs.search.choose_constant_differences.Goals as goal

pub returns-then-not-limits : goal.returns-then-not-limits
returns-then-not-limits g c = λ slots held. gives _ _ (no_list (with_slots (part_of c.args.part c.args.array.now) slots) c.args.limits.now.constant _ c.if-not-limits.true)

pub returns : goal.returns
returns g c = λ slots held.
    gives _ _ (constant_differs (with_slots (part_of c.args.part c.args.array.now) slots) c.args.limits.now.constant (ap are_constant held.1 ∙ (ok_is _ _ c.in_ok-equal.ensures ∙ c.if-equal.false)))

pub returns-then-equal : goal.returns-then-equal
returns-then-equal g c = λ slots held.
    gives _ _ (constant_there (with_slots (part_of c.args.part c.args.array.now) slots) c.args.limits.now.constant c.if-not-limits.false (ap are_constant held.1 ∙ (ok_is _ _ c.in_ok-equal.ensures ∙ c.if-equal.true)))
