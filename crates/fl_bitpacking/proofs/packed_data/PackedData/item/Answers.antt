use Rattle.std.proofs.Common.{◌≡◌, ap, false, true}
use Rattle.fl_types.specs.Validities.{is_valid_at, nullability_of}
use Rattle.fl_bitpacking.specs.Columns.{BitPackedParts}
use Rattle.fl_bitpacking.proofs.BlockItems.{null_scalar, valid_scalar}
use Rattle.fl_bitpacking.proofs.packed_data.PackedData.item.Goals as goal

pub returns-then-not-is_valid-clause-item : goal.returns-then-not-is_valid-clause-item
returns-then-not-is_valid-clause-item c blocks h =
    let p = c.args.self.now in
    let seen = ap (λ (q : BitPackedParts). is_valid_at q.validity c.args.i) c.self.view_is in
    let read = c.is_valid.ensures in
    let not = c.if-not-is_valid.true in
    let null : is_valid_at p.validity c.args.i ≡ false = cc in
    rw (c.null.ensures, c.dtype.ensures) (null_scalar p blocks c.args.i c.requires.range null)

pub returns-clause-item : goal.returns-clause-item
returns-clause-item c blocks h =
    let p = c.args.self.now in
    let seen = ap (λ (q : BitPackedParts). is_valid_at q.validity c.args.i) c.self.view_is in
    let read = c.is_valid.ensures in
    let not = c.if-not-is_valid.false in
    let valid : is_valid_at p.validity c.args.i ≡ true = cc in
    let typed = ap (λ (q : BitPackedParts). nullability_of q.validity) c.self.view_is in
    let nulls = c.nullability.ensures in
    let nullability : c.nullability.result ≡ nullability_of p.validity = cc in
    rw (c.primitive.ensures, c.value-value.ensures.typed, c.value-value.ensures.value, nullability) (valid_scalar p blocks c.args.i c.args.extent c.requires.range valid h)
