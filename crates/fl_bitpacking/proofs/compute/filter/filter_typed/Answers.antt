use Rattle.std.proofs.Common.{◌≡◌, ◌∙◌, Ok, ap}
use Rattle.fl_column.specs.Operations.{kept}
use Rattle.fl_column.specs.Selections.{kept_validity}
use Rattle.fl_bitpacking.proofs.FilteredLaws.{kept_column, slots_by_type, slots_covered}
use Rattle.fl_bitpacking.proofs.compute.filter.filter_typed.Goals as goal

pub new_unchecked-requires : goal.new_unchecked-requires
new_unchecked-requires g c =
    let column = c.args.column.now in
    let bits = c.args.bits.now in
    let valid : c.in_ok-validity.validity ≡ kept_validity bits column.validity.now = cc (c.in_ok-validity.ensures) in
    let slots = (rw c.over-reader.ensures at c.in_ok-slots.ensures.slots) ∙ ap (kept bits) (slots_by_type column c.args.widths c.args.bits g.T.NativePType.PTYPE c.requires.typed) in
    slots_covered g.T.Number.value column c.args.widths bits c.in_ok-slots.slots.items c.in_ok-validity.validity c.requires.fit slots valid

pub returns-clause-column : goal.returns-clause-column
returns-clause-column g c =
    let column = c.args.column.now in
    let bits = c.args.bits.now in
    let valid : c.in_ok-validity.validity ≡ kept_validity bits column.validity.now = cc (c.in_ok-validity.ensures) in
    let slots = (rw c.over-reader.ensures at c.in_ok-slots.ensures.slots) ∙ ap (kept bits) (slots_by_type column c.args.widths c.args.bits g.T.NativePType.PTYPE c.requires.typed) in
    ap Ok (kept_column g.T.Number.value column c.args.widths bits g.T.NativePType.PTYPE c.in_ok-slots.slots.items c.in_ok-validity.validity c.new_unchecked.result c.requires.fit c.requires.typed slots valid c.new_unchecked.ensures)
