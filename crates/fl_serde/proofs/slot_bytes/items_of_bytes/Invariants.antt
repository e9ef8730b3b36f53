use Rattle.std.proofs.Common.{◌≡◌, map}
use Rattle.fl_types.specs.Bits.{tabulate}
use Rattle.fl_serde.specs.Leaves.{slot_at}
use Rattle.fl_serde.proofs.slot_bytes.items_of_bytes.Given as goal

-- the integers so far
abbrev pub invariant-loop-i : goal.invariant-loop-i
invariant-loop-i g l = map g.T.Number.value l.items.items ≡ tabulate (slot_at g.T.NativePType.PTYPE l.bytes) l.i
