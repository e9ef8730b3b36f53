use Rattle.std.proofs.Common.{◌≡◌, ◌∙◌, Ok, ap, length, sym, true}
use Rattle.std.specs.List.{list_all}
use Rattle.fl_column.specs.Columns.{Column}
use Rattle.fl_column.specs.Operations.{is_in_range, take_of}
use Rattle.fl_ops.proofs.PickedItems.{taken_covered, taken_is}
use Rattle.fl_ops.proofs.by_blocks.take.take_typed.Goals as goal

pub new_unchecked-requires : goal.new_unchecked-requires
new_unchecked-requires g c = taken_covered c.in_ok-slots.slots.items c.of-indices.result c.args.reader.now.column c.in_ok-validity.validity c.in_ok-slots.ensures.long c.in_ok-validity.ensures.validity

pub returns : goal.returns
returns g c =
    let column = c.args.reader.now.column in
    let indices = c.of-indices.result in
    let range : list_all (is_in_range (length column.items)) indices.items ≡ true = rw c.of-indices.ensures c.requires.range in
    ap (λ (x : Column). Ok x) (ap (λ (x : Column). take_of x column) (sym c.of-indices.ensures) ∙ taken_is g.T.Number.value c.in_ok-slots.slots.items indices column c.in_ok-validity.validity g.T.NativePType.PTYPE c.new_unchecked.result c.requires.typed c.in_ok-slots.ensures.long range c.in_ok-slots.ensures.picked c.in_ok-validity.ensures.validity c.new_unchecked.ensures)
