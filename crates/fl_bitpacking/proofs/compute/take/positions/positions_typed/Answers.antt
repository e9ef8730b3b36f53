use Rattle.std.proofs.Common.{map, subst}
use Rattle.fl_types.specs.declared.validity.Validity.{Validity}
use Rattle.fl_types.specs.Validities.{items_of}
use Rattle.fl_column.proofs.GatherLaws.{covers_read}
use Rattle.fl_bitpacking.specs.Taken.{AreNamed}
use Rattle.fl_bitpacking.proofs.TakenLaws.{positions_all}
use Rattle.fl_bitpacking.proofs.compute.take.positions.positions_typed.Goals as goal

pub returns : goal.returns
returns g c =
    let value = g.I.Number.value in
    let slots = c.as_slice-slots.result.now in
    let p = c.args.indices.now in
    let covered = covers_read value slots p.slots p.validity c.as_slice-slots.ensures c.validity-validity.ensures.covers in
    let by : Validity → Type 0 = λ v. AreNamed c.args.len (items_of v (map value slots)) c.loop-k.k c.loop-k.positions.items in
    positions_all value p.validity slots p.slots c.args.len c.loop-k.k c.loop-k.positions.items c.as_slice-slots.ensures covered c.loop-k-test.false (subst by c.validity-validity.ensures.value c.loop-k.invariant)
