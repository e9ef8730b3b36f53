use Rattle.std.proofs.Common.{◌∙◌, Ok, map, ap}
use Rattle.fl_types.specs.Validities.{items_of}
use Rattle.fl_codec.proofs.ChunkSlots.{made_each, made_one, ok_child, slots_long}
use Rattle.fl_codec.proofs.ReferenceLaws.{covered_read, fit_read, length-items_read, length_of_values}
use Rattle.fl_codec.proofs.for_.encode_chunks.Goals as goal

pub less_leasts-requires-clause-covers : goal.less_leasts-requires-clause-covers
less_leasts-requires-clause-covers g c = covered_read g.T.Number.value c.args.array.now c.validity.result.now c.as_slice-items.result.now c.validity.ensures.value c.validity.ensures.covers c.as_slice-items.ensures

pub less_leasts-requires-clause-fit : goal.less_leasts-requires-clause-fit
less_leasts-requires-clause-fit g c = fit_read g.T.Number.value c.args.array.now g.T.NativePType.PTYPE c.as_slice-items.result.now c.requires c.stored_integers_are_in_range.ensures.slots c.as_slice-items.ensures

pub under_validity_of-requires : goal.under_validity_of-requires
under_validity_of-requires g c =
    let value = g.T.Number.value in
    let covered = covered_read value c.args.array.now c.validity.result.now c.as_slice-items.result.now c.validity.ensures.value c.validity.ensures.covers c.as_slice-items.ensures in
    slots_long value g.T.NativePType.PTYPE _ (items_of c.validity.result.now (map value c.as_slice-items.result.now)) c.in_ok-references.slots.items c.in_ok-references.ensures.slots
    ∙ (length-items_read value c.validity.result.now c.as_slice-items.result.now covered ∙ length_of_values value c.as_slice-items.result.now c.args.array.now.slots c.as_slice-items.ensures)

pub returns-in-Some : goal.returns-in-Some
returns-in-Some g c =
    let value = g.T.Number.value in
    ap Ok (made_one c.args.order g.T.NativePType.PTYPE value c.args.array.now c.validity.result.now c.as_slice-items.result.now (map value c.in_ok-references.references.items) (map value c.in_ok-references.slots.items) (value c.in-Some.reference) c.in_ok-child.child _
    c.requires c.validity.ensures.value c.as_slice-items.ensures c.in_ok-references.ensures.references c.in_ok-references.ensures.slots (rw c.deref.ensures.value at c.in-Some.ensures) (ok_child _ _ c.in_ok-child.ensures) c.over_reference.ensures)

pub returns-in-None : goal.returns-in-None
returns-in-None g c =
    let value = g.T.Number.value in
    ap Ok (made_each c.args.order g.T.NativePType.PTYPE value c.args.array.now c.validity.result.now c.as_slice-items.result.now (map value c.in_ok-references.references.items) (map value c.in_ok-references.slots.items) c.in_ok-child.child c.non_nullable.result
    c.requires c.validity.ensures.value c.as_slice-items.ensures c.in_ok-references.ensures.references c.in_ok-references.ensures.slots (rw c.deref.ensures.value at c.in-None.ensures) (ok_child _ _ c.in_ok-child.ensures) c.non_nullable.ensures)
