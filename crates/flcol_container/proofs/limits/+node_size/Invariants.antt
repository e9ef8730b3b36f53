use Rattle.std.proofs.Common.{◌≡◌, ◌-◌, ◌^◌, length, min, take}
use Rattle.fl_serialized.specs.Nodes.{nodes_of}
use Rattle.flcol_container.specs.Room.{AreInMemory}
use Rattle.flcol_container.proofs.Sizes.{so_far}
use Rattle.flcol_container.proofs.limits.+node_size.Given as goal

-- the children so far
abbrev pub invariant-loop-child : goal.invariant-loop-child
invariant-loop-child l = (l.size ≡ min (length (so_far l.array (take l.child-index l.child-items))) (2 ^ 64 - 1)) × AreInMemory (nodes_of (take l.child-index l.child-items))
