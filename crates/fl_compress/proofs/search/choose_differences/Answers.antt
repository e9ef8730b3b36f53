use Rattle.std.proofs.Common.{ap, sym, ◌∙◌}
use Rattle.fl_array.proofs.EncodedRLE.{ok_is}
use Rattle.fl_statistics.specs.BitStatistics.{bit_statistics}
use Rattle.fl_encode.specs.SchemeShapes.{shape}
use Rattle.fl_compress.specs.Choices.{chosen, chosen_in, part_of, with_slots}
use Rattle.fl_compress.proofs.AnswerLaws.{free_choice, gives, packed_choice, unpacked_choice}
use Rattle.fl_compress.proofs.search.choose_differences.Goals as goal

pub returns-then-best-eq0-clause-choice : goal.returns-then-best-eq0-clause-choice
returns-then-best-eq0-clause-choice g c = λ slots held.
    gives _ _ (sym (free_choice c.args.limits.now c.args.depth (with_slots (part_of c.args.part c.args.array.now) slots) (shape c.in_ok-best.best.scheme) c.in_ok-best.best.bytes (sym (ok_is _ _ (c.in_ok-best.ensures.choice slots held))) c.if-best-eq0.true))

pub returns-then-not-has_level-clause-choice : goal.returns-then-not-has_level-clause-choice
returns-then-not-has_level-clause-choice g c = λ slots held.
    gives _ _ (sym (unpacked_choice c.args.limits.now c.args.depth (with_slots (part_of c.args.part c.args.array.now) slots) (chosen c.in_ok-best.best) (sym c.has_level.ensures ∙ c.if-not-has_level.true) (sym (ok_is _ _ (c.in_ok-best.ensures.choice slots held)))))

pub returns-clause-choice : goal.returns-clause-choice
returns-clause-choice g c = λ slots held.
    let q = part_of c.args.part c.args.array.now in
    gives _ _ (sym (packed_choice c.args.limits.now c.args.depth (with_slots q slots) (chosen c.in_ok-best.best) (chosen_in c.choose_packing-packing.result) (chosen c.cheaper.result) (sym (ok_is _ _ (c.in_ok-best.ensures.choice slots held)))
    (c.choose_packing-packing.ensures slots held.0 (sym (ok_is _ _ c.in_ok-statistics.ensures) ∙ ap (bit_statistics q.ptype) (sym held.1))) c.cheaper.ensures.choice))
