use Rattle.std.proofs.Common.{◌≡◌, Ok, ap}
use Rattle.fl_column.specs.Selections.{kept_validity}
use Rattle.fl_ops.proofs.ReadLists.{kept_covered, kept_is}
use Rattle.fl_ops.proofs.by_blocks.filter.filter_typed.Goals as goal

pub new_unchecked-requires : goal.new_unchecked-requires
new_unchecked-requires g c =
    let valid : c.in_ok-validity.validity ≡ kept_validity c.args.bits.now c.args.validity.now = cc (c.in_ok-validity.ensures) in
    kept_covered g.T.Number.value c.args.bits.now c.in_ok-slots.slots.items c.args.validity.now c.in_ok-validity.validity c.args.reader.now.column c.requires.validity c.in_ok-slots.ensures valid

pub returns : goal.returns
returns g c =
    let valid : c.in_ok-validity.validity ≡ kept_validity c.args.bits.now c.args.validity.now = cc (c.in_ok-validity.ensures) in
    ap Ok (kept_is g.T.Number.value c.args.bits.now c.in_ok-slots.slots.items c.args.validity.now c.in_ok-validity.validity c.args.reader.now.column g.T.NativePType.PTYPE c.new_unchecked.result c.requires.typed c.requires.validity c.in_ok-slots.ensures valid c.new_unchecked.ensures)
