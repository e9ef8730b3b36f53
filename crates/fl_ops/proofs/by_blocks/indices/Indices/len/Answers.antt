use Rattle.std.proofs.Common.{refl}
use Rattle.fl_ops.proofs.PickedItems.{as_many}
use Rattle.fl_ops.proofs.by_blocks.indices.Indices.len.Goals as goal

pub returns : goal.returns
returns g c =
    let x = c.self.inside in
    as_many g.I.Number.value x.validity.now x.slots.now c.args.self.now _ c.self.view_is refl c.self.invariant
