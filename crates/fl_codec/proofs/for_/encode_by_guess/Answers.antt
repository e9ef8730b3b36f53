use Rattle.std.proofs.Common.{ap, map, sym, subst, ◌∙◌, Result}
use Rattle.fl_types.specs.declared.error.FastLanesError.{FastLanesError}
use Rattle.fl_types.specs.Refusals.{Answers}
use Rattle.fl_codec.specs.FoRColumns.{least_by, minus_reference, reading}
use Rattle.fl_codec.specs.Parts.{OneReference, global_parts, items_of_primitive, subtract_min}
use Rattle.fl_codec.proofs.ReferenceLaws.{covered_read, fit_read, same_items}
use Rattle.fl_codec.proofs.for_.encode_by_guess.Goals as goal

pub differences-requires-clause-covers : goal.differences-requires-clause-covers
differences-requires-clause-covers g c = covered_read g.T.Number.value c.args.array.now c.validity.result.now c.as_slice-items.result.now c.validity.ensures.value c.validity.ensures.covers c.as_slice-items.ensures

pub differences-requires-clause-fit : goal.differences-requires-clause-fit
differences-requires-clause-fit g c = fit_read g.T.Number.value c.args.array.now g.T.NativePType.PTYPE c.as_slice-items.result.now c.requires c.stored_integers_are_in_range.ensures.slots c.as_slice-items.ensures

pub over_differences-requires-clause-slots : goal.over_differences-requires-clause-slots
over_differences-requires-clause-slots g c =
    let value = g.T.Number.value in
    (rw c.in-Some.is at c.in_ok-slots.ensures.slots) ∙ ap (map (minus_reference g.T.NativePType.PTYPE (value c.args.guess))) (same_items value c.args.array.now c.validity.result.now c.as_slice-items.result.now c.validity.ensures.value c.as_slice-items.ensures)

pub returns-in-Some : goal.returns-in-Some
returns-in-Some g c =
    let value = g.T.Number.value in
    let array = c.args.array.now in
    let same = same_items value array c.validity.result.now c.as_slice-items.result.now c.validity.ensures.value c.as_slice-items.ensures in
    let typed = ap (λ t. least_by (reading c.args.order t) (items_of_primitive array)) c.requires in
    let least = typed ∙ (ap (least_by (reading c.args.order g.T.NativePType.PTYPE)) (sym same) ∙ (rw c.in-Some.is at c.in_ok-slots.ensures.least)) in
    subst (λ (m : Result OneReference FastLanesError). Answers global_parts c.over_differences.result m) (sym (ap (subtract_min array) least)) c.over_differences.ensures
