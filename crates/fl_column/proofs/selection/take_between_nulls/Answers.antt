use Rattle.std.proofs.Common.{◌≡◌, length, map}
use Rattle.fl_types.specs.Validities.{items_of, nullability_of}
use Rattle.fl_types.specs.Types.{either_nullable}
use Rattle.fl_column.specs.Operations.{item_named}
use Rattle.fl_column.specs.Selections.{items_at}
use Rattle.fl_column.proofs.SelectionLaws.{ok_positions, taken_below, taken_stands, taken_named}
use Rattle.fl_column.proofs.selection.take_between_nulls.Goals as goal

pub take_positions-requires-clause-below : goal.take_positions-requires-clause-below
take_positions-requires-clause-below c =
    let a = c.args.array.now in
    let b = c.args.indices.now in
    let items = items_of a.validity a.slots in
    let indices = items_of b.validity b.slots in
    let ok = ok_positions (length items) indices c.in_ok-positions.positions.items (rw c.len.ensures.items at c.in_ok-positions.ensures) in
    rw (c.deref.ensures.value, ← ok.1) (taken_below (length items) indices ok.0)

pub take_positions-requires-clause-nulls : goal.take_positions-requires-clause-nulls
take_positions-requires-clause-nulls c =
    let a = c.args.array.now in
    let b = c.args.indices.now in
    let items = items_of a.validity a.slots in
    let indices = items_of b.validity b.slots in
    let ok = ok_positions (length items) indices c.in_ok-positions.positions.items (rw c.len.ensures.items at c.in_ok-positions.ensures) in
    rw (c.deref.ensures.value, ← ok.1) (taken_stands a.validity b.validity a.slots b.slots c.or-nullability.result (cc) (taken_below (length items) indices ok.0))

pub returns : goal.returns
returns c =
    let a = c.args.array.now in
    let b = c.args.indices.now in
    let items = items_of a.validity a.slots in
    let indices = items_of b.validity b.slots in
    let ok = ok_positions (length items) indices c.in_ok-positions.positions.items (rw c.len.ensures.items at c.in_ok-positions.ensures) in
    let named : items_at items c.in_ok-positions.positions.items ≡ map (item_named items) indices = rw (← ok.1) (taken_named items indices) in
    let n : c.or-nullability.result ≡ either_nullable (nullability_of a.validity) (nullability_of b.validity) = cc in
    rw (ok.0, ← named, ← n, ← c.deref.ensures.value) c.take_positions.ensures
