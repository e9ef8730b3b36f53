use Rattle.std.proofs.Common.{◌∙◌, option_map, ap, sym}
use Rattle.fl_codec.specs.Parts.{items_of_primitive}
use Rattle.fl_codec.specs.FoRColumns.{least_by, reading}
use Rattle.fl_codec.proofs.ReferenceLaws.{covered_read, fit_read, least_of_plain}
use Rattle.fl_codec.proofs.for_.least_item.Goals as goal

pub least_between-requires-clause-covers : goal.least_between-requires-clause-covers
least_between-requires-clause-covers g c = covered_read g.T.Number.value c.args.array.now c.validity.result.now c.as_slice-items.result.now c.validity.ensures.value c.validity.ensures.covers c.as_slice-items.ensures

pub least_between-requires-clause-fit : goal.least_between-requires-clause-fit
least_between-requires-clause-fit g c = fit_read g.T.Number.value c.args.array.now g.T.NativePType.PTYPE c.as_slice-items.result.now c.requires c.stored_integers_are_in_range.ensures.slots c.as_slice-items.ensures

pub returns : goal.returns
returns g c =
    let array = c.args.array.now in
    let value = g.T.Number.value in
    let typed = ap (λ t. least_by (reading c.args.order t) (items_of_primitive array)) c.requires in
    sym (typed ∙ least_of_plain (reading c.args.order g.T.NativePType.PTYPE) value array c.validity.result.now c.as_slice-items.result.now (option_map value c.least_between.result) c.validity.ensures.value c.validity.ensures.covers c.as_slice-items.ensures c.least_between.ensures)
