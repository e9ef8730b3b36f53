use Rattle.std.proofs.Common.{◌+◌, ◌∙◌, arith, refl}
use Rattle.fl_types.proofs.MovedBits.{word_of_one, word_of_two}
use Rattle.fl_scan.proofs.CountingLaws.{answer_is, word_itself}
use Rattle.fl_scan.proofs.counting.answers_from.Goals as goal

pub returns-then-shift-eq0 : goal.returns-then-shift-eq0
returns-then-shift-eq0 c j h room = word_itself c.args.answers.now c.args.at j c.if-shift-eq0.true h

pub returns-then-k-eq15 : goal.returns-then-k-eq15
returns-then-k-eq15 c j h room = word_of_one c.args.answers.now c.args.at j _ refl (let last = c.if-k-eq15.true in omega arith) ∙ answer_is c.args.answers.now (c.args.at + j)

pub returns : goal.returns
returns c j h room = word_of_two c.args.answers.now c.args.at j _ _ refl refl (omega (arith, c.type_inv.answers)) h ∙ answer_is c.args.answers.now (c.args.at + j)
