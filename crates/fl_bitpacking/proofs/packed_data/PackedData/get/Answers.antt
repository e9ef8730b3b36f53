use Rattle.std.proofs.Common.{◌≡◌, ap, false, sym, true}
use Rattle.fl_types.specs.Validities.{is_valid_at}
use Rattle.fl_bitpacking.specs.Columns.{BitPackedParts}
use Rattle.fl_bitpacking.proofs.BlockItems.{null_item, valid_item}
use Rattle.fl_bitpacking.proofs.packed_data.PackedData.get.Goals as goal

pub returns-then-not-is_valid-clause-item : goal.returns-then-not-is_valid-clause-item
returns-then-not-is_valid-clause-item g c blocks h =
    let p = c.args.self.now in
    let seen = ap (λ (q : BitPackedParts). is_valid_at q.validity c.args.i) c.self.view_is in
    let read = c.is_valid.ensures in
    let not = c.if-not-is_valid.true in
    let null : is_valid_at p.validity c.args.i ≡ false = cc in
    sym (null_item p blocks c.args.i c.requires.range null)

pub returns-clause-item : goal.returns-clause-item
returns-clause-item g c blocks h =
    let p = c.args.self.now in
    let seen = ap (λ (q : BitPackedParts). is_valid_at q.validity c.args.i) c.self.view_is in
    let read = c.is_valid.ensures in
    let not = c.if-not-is_valid.false in
    let valid : is_valid_at p.validity c.args.i ≡ true = cc in
    rw c.value_as.ensures.value (sym (valid_item p blocks c.args.i c.args.extent c.requires.range valid h))
