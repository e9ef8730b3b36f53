use Rattle.std.proofs.Common.{◌≡◌, map, take}
use Rattle.fl_serde.specs.Leaves.{bytes_of_slots}
use Rattle.fl_serde.proofs.slot_bytes.bytes_of_items.Given as goal

-- the bytes so far
abbrev pub invariant-loop-item : goal.invariant-loop-item
invariant-loop-item g l = l.bytes.items ≡ bytes_of_slots g.T.NativePType.PTYPE (map g.T.Number.value (take l.item-index l.items))
