use Rattle.std.proofs.Common.{◌∙◌, get_or, pos, refl, sym, arith}
use Rattle.fl_column.specs.Columns.{column_of_primitive}
use Rattle.fl_bitpacking.proofs.TakenColumns.{index_gone, index_there, item_of_name, next_named, none_named}
use Rattle.fl_bitpacking.proofs.compute.take.Taking.next_item.Goals as goal

pub item-requires-clause-range : goal.item-requires-clause-range
item-requires-clause-range g c =
    let p = c.args.indices.now in
    let there = index_there p c.validity.result.now c.args.k c.validity.ensures.value c.validity.ensures.covers c.requires.range (sym c.if-is_valid.ensures) in
    let next = next_named (column_of_primitive p).items c.args.self.positions.now c.args.k c.args.next (get_or p.slots c.args.k (pos 0)) there.0 there.1 c.requires.named in
    let even = c.requires.slots.even in
    let inside = next.0 in
    omega arith

pub returns-then-is_valid-clause-item : goal.returns-then-is_valid-clause-item
returns-then-is_valid-clause-item g c =
    let p = c.args.indices.now in
    let z = get_or p.slots c.args.k (pos 0) in
    let there = index_there p c.validity.result.now c.args.k c.validity.ensures.value c.validity.ensures.covers c.requires.range (sym c.if-is_valid.ensures) in
    let next = next_named (column_of_primitive p).items c.args.self.positions.now c.args.k c.args.next z there.0 there.1 c.requires.named in
    let named = item_of_name c.args.self z (get_or c.args.self.positions.now c.args.next 0) next.1.0 (c.requires.below c.args.next next.0) in
    rw there.1 (c.item.ensures ∙ named)

pub returns-then-is_valid-clause-named : goal.returns-then-is_valid-clause-named
returns-then-is_valid-clause-named g c =
    let p = c.args.indices.now in
    let there = index_there p c.validity.result.now c.args.k c.validity.ensures.value c.validity.ensures.covers c.requires.range (sym c.if-is_valid.ensures) in
    (next_named (column_of_primitive p).items c.args.self.positions.now c.args.k c.args.next (get_or p.slots c.args.k (pos 0)) there.0 there.1 c.requires.named).1.1

pub returns-else-is_valid-clause-item : goal.returns-else-is_valid-clause-item
returns-else-is_valid-clause-item g c =
    let gone = index_gone c.args.indices.now c.validity.result.now c.args.k c.validity.ensures.value c.validity.ensures.covers c.requires.range (sym c.if-is_valid.ensures) in
    rw gone.1 refl

pub returns-else-is_valid-clause-named : goal.returns-else-is_valid-clause-named
returns-else-is_valid-clause-named g c =
    let p = c.args.indices.now in
    let gone = index_gone p c.validity.result.now c.args.k c.validity.ensures.value c.validity.ensures.covers c.requires.range (sym c.if-is_valid.ensures) in
    none_named (column_of_primitive p).items c.args.self.positions.now c.args.k c.args.next gone.0 gone.1 c.requires.named
