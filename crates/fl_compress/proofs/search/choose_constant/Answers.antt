use Rattle.std.proofs.Common.{◌∙◌}
use Rattle.fl_array.proofs.EncodedRLE.{ok_is}
use Rattle.fl_compress.specs.Choices.{part_of}
use Rattle.fl_compress.proofs.AnswerLaws.{gives}
use Rattle.fl_compress.proofs.ListLaws.{constant_differs, constant_there, no_list}
use Rattle.fl_compress.proofs.search.choose_constant.Goals as goal

pub returns-then-not-limits : goal.returns-then-not-limits
returns-then-not-limits c = gives _ _ (no_list (part_of c.args.part c.args.array.now) c.args.limits.now.constant _ c.if-not-limits.true)

pub returns : goal.returns
returns c = gives _ _ (constant_differs (part_of c.args.part c.args.array.now) c.args.limits.now.constant (ok_is _ _ c.in_ok-equal.ensures ∙ c.if-equal.false))

pub returns-then-equal : goal.returns-then-equal
returns-then-equal c = gives _ _ (constant_there (part_of c.args.part c.args.array.now) c.args.limits.now.constant c.if-not-limits.false (ok_is _ _ c.in_ok-equal.ensures ∙ c.if-equal.true))
