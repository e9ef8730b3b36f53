use Rattle.std.proofs.Common.{◌≡◌, ◌<◌, IsTrue, map, length, sym, arith}
use Rattle.std.proofs.lemmas.List.{length-map}
use Rattle.fl_types.specs.Validities.{items_of, covers}
use Rattle.fl_types.specs.Buffers.{integers_of}
use Rattle.fl_column.proofs.GatherLaws.{covers_read}
use Rattle.fl_column.proofs.ItemLaws.{length-items_of}
use Rattle.fl_column.proofs.QueryLaws.{constant_from_first, not_constant}
use Rattle.fl_column.proofs.compute.is_constant.is_constant_typed.Goals as goal

pub returns-then-not-is_same_item : goal.returns-then-not-is_same_item
returns-then-not-is_same_item g c =
    let slots = map g.T.Number.value c.as_slice-items.result.now in
    let items = items_of c.args.validity.now slots in
    let covered : IsTrue (covers c.args.validity.now (length slots)) = rw c.as_slice-items.ensures c.requires.covers in
    let each : length items ≡ length slots = length-items_of c.args.validity.now slots covered in
    let all = length-map c.as_slice-items.result.now g.T.Number.value in
    let within : c.loop-i.i < length items = omega arith in
    rw (← c.as_slice-items.ensures) (sym (not_constant items c.loop-i.i within (rw (← c.item_at.ensures, ← c.item_at-in-loop-i.ensures) (sym c.if-not-is_same_item.ensures))))

pub returns : goal.returns
returns g c =
    let slots = map g.T.Number.value c.as_slice-items.result.now in
    let items = items_of c.args.validity.now slots in
    let covered : IsTrue (covers c.args.validity.now (length slots)) = rw c.as_slice-items.ensures c.requires.covers in
    let each : length items ≡ length slots = length-items_of c.args.validity.now slots covered in
    let all = length-map c.as_slice-items.result.now g.T.Number.value in
    rw (← c.as_slice-items.ensures) (sym (constant_from_first items (λ k h. c.loop-i.invariant k (omega arith))))

pub item_at-requires-clause-covers : goal.item_at-requires-clause-covers
item_at-requires-clause-covers g c = covers_read g.T.Number.value c.as_slice-items.result.now (integers_of c.args.slots.now) c.args.validity.now c.as_slice-items.ensures c.requires.covers

pub item_at-requires-in-loop-i-clause-covers : goal.item_at-requires-in-loop-i-clause-covers
item_at-requires-in-loop-i-clause-covers g c = covers_read g.T.Number.value c.as_slice-items.result.now (integers_of c.args.slots.now) c.args.validity.now c.as_slice-items.ensures c.requires.covers
