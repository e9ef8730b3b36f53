use Rattle.std.proofs.Common.{◌≡◌, ap, refl}
use Rattle.fl_types.specs.Validities.{nullability_of}
use Rattle.fl_bitpacking.specs.Columns.{BitPackedParts}
use Rattle.fl_bitpacking.proofs.BlockItems.{stored_there}
use Rattle.fl_bitpacking.proofs.packed_data.PackedData.stored.Goals as goal

pub returns-clause-item : goal.returns-clause-item
returns-clause-item c blocks h =
    let p = c.args.self.now in
    let typed = ap (λ (q : BitPackedParts). nullability_of q.validity) c.self.view_is in
    let nulls = c.nullability.ensures in
    let nullability : c.nullability.result ≡ nullability_of p.validity = cc in
    rw (c.primitive.ensures, c.stored_value-value.ensures.typed, c.stored_value-value.ensures.value, nullability, stored_there p blocks c.args.i c.args.extent h) refl
