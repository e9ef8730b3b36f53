use Rattle.std.proofs.Common.{sym}
use Rattle.fl_array.proofs.EncodedRLE.{ok_is}
use Rattle.fl_compress.specs.Choices.{chosen, chosen_in, part_of}
use Rattle.fl_compress.proofs.AnswerLaws.{gives, whole_choice_is}
use Rattle.fl_compress.proofs.search.choose_whole.Goals as goal

pub returns-clause-choice : goal.returns-clause-choice
returns-clause-choice c =
    gives _ _ (sym (whole_choice_is (part_of c.args.part c.args.array.now) c.args.limits.now c.plain_bytes.result (chosen c.plain.result) (chosen_in c.in_ok-constant.constant) (chosen c.cheaper.result)
    c.plain_bytes.ensures.value c.plain.ensures (sym (ok_is _ _ c.in_ok-constant.ensures)) c.cheaper.ensures.choice))
