use Rattle.fl_patches.proofs.Gathers.{covered_slice}
use Rattle.fl_patches.proofs.block_widths.has_negative_typed.Goals as goal

pub has_negative_item-requires : goal.has_negative_item-requires
has_negative_item-requires g c = covered_slice g.T.Number.value c.args.array.now.validity c.validity-validity.result.now c.as_slice.result.now c.args.array.now.slots c.as_slice.ensures c.validity-validity.ensures.value c.validity-validity.ensures.covers

pub returns : goal.returns
returns g c = rw (← c.as_slice.ensures, ← c.validity-validity.ensures.value) c.has_negative_item.ensures
