use Rattle.std.proofs.Common.{map}
use Rattle.fl_types.specs.Validities.{items_of}
use Rattle.fl_bitpacking.specs.Taken.{AreNamed}
use Rattle.fl_bitpacking.proofs.compute.take.positions.positions_typed.Given as goal

-- the positions so far
abbrev pub invariant-loop-k : goal.invariant-loop-k
invariant-loop-k g l = AreNamed l.len (items_of l.validity (map g.I.Number.value l.slots)) l.k l.positions.items
