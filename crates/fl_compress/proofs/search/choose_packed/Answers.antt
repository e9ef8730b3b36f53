use Rattle.std.proofs.Common.{refl, sym, ◌∙◌}
use Rattle.fl_array.proofs.EncodedRLE.{ok_is}
use Rattle.fl_encode.specs.SchemeShapes.{shape}
use Rattle.fl_compress.specs.Choices.{chosen, chosen_in}
use Rattle.fl_compress.proofs.AnswerLaws.{free_choice, gives, packed_choice, unpacked_choice}
use Rattle.fl_compress.proofs.search.choose_packed.Goals as goal

pub returns-then-best-eq0-clause-choice : goal.returns-then-best-eq0-clause-choice
returns-then-best-eq0-clause-choice c = gives _ _ (sym (free_choice c.args.limits.now c.args.depth c.args.array.now (shape c.in_ok-best.best.scheme) c.in_ok-best.best.bytes (sym (ok_is _ _ c.in_ok-best.ensures.choice)) c.if-best-eq0.true))

pub returns-clause-choice : goal.returns-clause-choice
returns-clause-choice c =
    gives _ _ (sym (packed_choice c.args.limits.now c.args.depth c.args.array.now (chosen c.in_ok-best.best) (chosen_in c.choose_packing-packing.result) (chosen c.cheaper.result) (sym (ok_is _ _ c.in_ok-best.ensures.choice)) (c.choose_packing-packing.ensures c.args.array.now.slots refl c.bit_statistics-statistics.ensures) c.cheaper.ensures.choice))

pub returns-then-not-has_level-clause-choice : goal.returns-then-not-has_level-clause-choice
returns-then-not-has_level-clause-choice c = gives _ _ (sym (unpacked_choice c.args.limits.now c.args.depth c.args.array.now (chosen c.in_ok-best.best) (sym c.has_level.ensures ∙ c.if-not-has_level.true) (sym (ok_is _ _ c.in_ok-best.ensures.choice))))
