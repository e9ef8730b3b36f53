use Rattle.std.proofs.Common.{◌≡◌, Ok, ap, sym}
use Rattle.fl_column.specs.Columns.{Column}
use Rattle.fl_ops.specs.BlockReads.{validity_of_ranges}
use Rattle.fl_ops.proofs.RangeReads.{ranges_are, ranges_covered}
use Rattle.fl_ops.proofs.by_blocks.ranges.ranges_typed.Goals as goal

pub new_unchecked-requires : goal.new_unchecked-requires
new_unchecked-requires g c =
    let valid : c.in_ok-validity.validity ≡ validity_of_ranges c.args.ranges.now c.args.validity.now = cc (c.in_ok-validity.ensures) in
    ranges_covered g.T.Number.value c.args.ranges.now c.args.validity.now c.in_ok-validity.validity c.in_ok-slots.slots.items c.args.reader.now.column c.requires.validity valid c.in_ok-slots.ensures

pub returns : goal.returns
returns g c =
    let valid : c.in_ok-validity.validity ≡ validity_of_ranges c.args.ranges.now c.args.validity.now = cc (c.in_ok-validity.ensures) in
    ap (λ (d : Column). Ok d) (ranges_are g.T.Number.value c.args.ranges.now c.args.validity.now c.in_ok-validity.validity c.in_ok-slots.slots.items c.args.reader.now.column g.T.NativePType.PTYPE c.new_unchecked.result c.requires.typed c.requires.validity valid c.in_ok-slots.ensures c.new_unchecked.ensures)
