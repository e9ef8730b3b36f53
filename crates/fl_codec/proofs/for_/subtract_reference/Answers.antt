use Rattle.std.proofs.Common.{ap, map, ◌∙◌}
use Rattle.fl_codec.specs.FoRColumns.{minus_reference}
use Rattle.fl_codec.proofs.ReferenceLaws.{covered_read, same_items}
use Rattle.fl_codec.proofs.for_.subtract_reference.Goals as goal

pub differences-requires : goal.differences-requires
differences-requires g c = covered_read g.T.Number.value c.args.array.now c.validity.result.now c.as_slice.result.now c.validity.ensures.value c.validity.ensures.covers c.as_slice.ensures

pub over_differences-requires-clause-slots : goal.over_differences-requires-clause-slots
over_differences-requires-clause-slots g c =
    let value = g.T.Number.value in
    c.in_ok-slots.ensures.slots ∙ ap (map (minus_reference g.T.NativePType.PTYPE (value c.args.reference))) (same_items value c.args.array.now c.validity.result.now c.as_slice.result.now c.validity.ensures.value c.as_slice.ensures)
