-- Each child of a node is less deep than the node.
use Rattle.std.specs.Prelude.{◌+◌, ◌≤◌, List, [], ◌∷◌}
use Rattle.std.proofs.Common.{arith}
use denote.Param.Weighed.{most}
use Rattle.fl_serialized.specs.Nodes.{Node, depth, depth_of, nodes_of}

pub most_le-depth_of : (nodes : List Node) → most (λ node. depth node + 1) nodes ≤ depth_of (nodes_of nodes) + 1
most_le-depth_of [] = omega arith
most_le-depth_of (node ∷ nodes) = omega (arith, most_le-depth_of nodes)
