use Rattle.std.proofs.Common.{IsTrue, length, map, subst}
use Rattle.std.proofs.lemmas.List.{length-map}
use Rattle.fl_types.specs.Validities.{covers}
use Rattle.fl_column.specs.Columns.{Column, PrimitiveParts}
use Rattle.fl_array.specs.Reads.{IsValidityOf}
use Rattle.fl_array.proofs.ValidityLaws.{validity_of_primitive}
use Rattle.fl_ops.proofs.by_blocks.indices.Indices.validity.Goals as goal

pub returns : goal.returns
returns g c =
    let x = c.self.inside in
    let value = g.I.Number.value in
    let parts : PrimitiveParts = record { ptype = g.I.NativePType.PTYPE; slots = map value x.slots.now; validity = x.validity.now } in
    let covered : IsTrue (covers x.validity.now (length (map value x.slots.now))) = rw (length-map x.slots.now value) c.self.invariant in
    subst (λ (d : Column). IsValidityOf x.validity.now d) c.self.view_is (validity_of_primitive parts covered)
