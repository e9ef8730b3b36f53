use Rattle.std.proofs.Common.{◌≡◌, ◌-◌, drop}
use Rattle.fl_serialized.specs.Nodes.{children_of, nodes_of}
use Rattle.flcol_container.specs.Room.{have_room}
use Rattle.flcol_container.proofs.limits.+has_room.Given as goal

-- whether all children have room is whether those that are left do
abbrev pub invariant-loop-child : goal.invariant-loop-child
invariant-loop-child l = have_room (l.depth - 1) (nodes_of (drop l.child-index l.child-items)) ≡ have_room (l.depth - 1) (children_of l.array)
