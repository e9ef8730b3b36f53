use Rattle.std.proofs.Common.{◌≡◌, take}
use Rattle.fl_types.specs.Validities.{items_of}
use Rattle.fl_column.specs.Selections.{items_at}
use Rattle.fl_types.specs.Buffers.{integers_of}
use Rattle.fl_column.proofs.selection.take_typed.Given as goal

-- the items so far
abbrev pub invariant-loop-position : goal.invariant-loop-position
invariant-loop-position g l = l.taken ≡ items_at (items_of l.validity (integers_of l.slots)) (take l.position-index l.positions)
