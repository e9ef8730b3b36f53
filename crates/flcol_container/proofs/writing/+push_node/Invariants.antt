use Rattle.std.proofs.Common.{◌≡◌, ◌++◌, take}
use Rattle.fl_serialized.specs.Nodes.{depth}
use Rattle.flcol_container.proofs.Sizes.{so_far}
use Rattle.flcol_container.proofs.writing.+push_node.Given as goal

abbrev pub decreases-push_node : goal.decreases-push_node
decreases-push_node l = depth l.array.now

-- the children so far
abbrev pub invariant-loop-child : goal.invariant-loop-child
invariant-loop-child l = l.out.items ≡ l.fn.out.items ++ so_far l.array (take l.child-index l.child-items)
