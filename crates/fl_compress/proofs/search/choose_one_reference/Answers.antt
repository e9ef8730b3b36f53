use Rattle.std.proofs.Common.{ap, refl, sym, ◌∙◌}
use Rattle.std.proofs.lemmas.Bool.Decides.{Decides-int_eq}
use Rattle.fl_types.specs.declared.error.FastLanesError.TheVariants.{NoMinimum}
use Rattle.fl_array.proofs.EncodedRLE.{ok_is}
use Rattle.fl_codec.specs.Parts.{subtract_min, subtract_reference}
use Rattle.fl_encode.specs.SchemeShapes.{shape}
use Rattle.fl_compress.specs.Candidates.{packed_schemes}
use Rattle.fl_compress.specs.Choices.{chosen, part_of}
use Rattle.fl_compress.proofs.AnswerLaws.{one_choice, or_one}
use Rattle.fl_compress.proofs.ListLaws.{no_reference_list}
use Rattle.fl_compress.proofs.PartLaws.{part_covers, part_fits}
use Rattle.fl_compress.proofs.ReferenceLaws.{absent_choice, zero_choice}
use Rattle.fl_compress.proofs.search.choose_one_reference.Goals as goal

pub returns-then-is_equal-clause-choice : goal.returns-then-is_equal-clause-choice
returns-then-is_equal-clause-choice g c =
    let p = c.args.array.now in
    let value = g.T.Number.value in
    zero_choice c.args.order (part_of c.args.part p) c.args.limits.now c.args.depth (shape c.args.first.scheme) c.args.first.bytes (value c.in-Some.reference) (part_covers c.args.part p c.validity-validity.ensures.covers) (part_fits c.args.part p c.stored_integers_are_in_range.ensures.slots)
    ((Decides-int_eq (value c.in-Some.reference) (value c.zero.result)).0 (sym c.is_equal.ensures ∙ c.if-is_equal.true) ∙ c.zero.ensures) (rw c.in-Some.is at c.requires.least) c.requires.first

pub returns-in_ok-choice-in-Some-clause-choice : goal.returns-in_ok-choice-in-Some-clause-choice
returns-in_ok-choice-in-Some-clause-choice g c =
    let q = part_of c.args.part c.args.array.now in
    let reference = g.T.Number.value c.in-Some.reference in
    let parts = subtract_reference q reference in
    or_one (chosen c.args.first) _ (chosen c.in_ok-choice-in-Some.choice) (chosen c.cheaper.result)
    (one_choice c.args.order q parts.child parts (packed_schemes c.args.limits.now c.args.depth) (shape c.in_ok-child-in-Some.child.scheme) c.in_ok-child-in-Some.child.bytes (chosen c.in_ok-choice-in-Some.choice)
    (ap (subtract_min q) (sym (rw c.in-Some.is at c.requires.least))) refl (sym (ok_is _ _ c.in_ok-child-in-Some.ensures.choice)) c.in_ok-choice-in-Some.ensures)
    c.cheaper.ensures.choice

pub returns-in-None-clause-choice : goal.returns-in-None-clause-choice
returns-in-None-clause-choice g c =
    let q = part_of c.args.part c.args.array.now in
    absent_choice (chosen c.args.first) _ (no_reference_list c.args.order q NoMinimum (packed_schemes c.args.limits.now c.args.depth) (ap (subtract_min q) (sym (rw c.in-None.is at c.requires.least))))
