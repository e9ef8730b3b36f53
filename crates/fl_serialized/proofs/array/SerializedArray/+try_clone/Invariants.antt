use Rattle.std.proofs.Common.{◌≡◌, take}
use Rattle.fl_serialized.proofs.array.SerializedArray.+try_clone.Given as goal

-- the children so far
abbrev pub invariant-loop-child : goal.invariant-loop-child
invariant-loop-child l = l.children.items ≡ take l.child-index l.self-inside.children.items
