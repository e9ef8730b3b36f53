use Rattle.std.proofs.Common.{sym, ◌∙◌}
use Rattle.fl_array.proofs.EncodedRLE.{ok_is}
use Rattle.fl_compress.specs.Choices.{chosen, chosen_in, part_of, with_slots}
use Rattle.fl_compress.proofs.AnswerLaws.{gives, whole_choice_is}
use Rattle.fl_compress.proofs.DifferenceLaws.{plain_alike}
use Rattle.fl_compress.proofs.search.choose_whole_differences.Goals as goal

pub returns-clause-choice : goal.returns-clause-choice
returns-clause-choice g c = λ slots held.
    let q = part_of c.args.part c.args.array.now in
    gives _ _ (sym (whole_choice_is (with_slots q slots) c.args.limits.now c.plain_bytes.result (chosen c.plain.result) (chosen_in c.in_ok-constant.constant) (chosen c.cheaper.result)
    (c.plain_bytes.ensures.value ∙ plain_alike q slots held.0) c.plain.ensures (sym (ok_is _ _ (c.in_ok-constant.ensures slots held))) c.cheaper.ensures.choice))
