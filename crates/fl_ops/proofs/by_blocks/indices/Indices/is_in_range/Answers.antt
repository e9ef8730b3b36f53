use Rattle.std.proofs.Common.{◌≡◌, arith, length, refl}
use Rattle.fl_ops.proofs.PickedItems.{as_many}
use Rattle.fl_ops.proofs.by_blocks.indices.Indices.is_in_range.Goals as goal

pub item_at-requires-clause-range : goal.item_at-requires-clause-range
item_at-requires-clause-range g c =
    let x = c.self.inside in
    let same : length x.slots.now ≡ length c.args.self.now.items = as_many g.I.Number.value x.validity.now x.slots.now c.args.self.now _ c.self.view_is refl c.self.invariant in
    let within = c.requires in
    omega arith
