-- The nodes of a list, and nodes as a list.
use Rattle.std.proofs.Common.{◌≡◌, ℕ, zero, suc, ◌<◌, List, [], ◌∷◌, length, get_or, refl, ap, arith}
use Rattle.fl_serialized.specs.Nodes.{And, NoMore, Node, Nodes, depth, depth_of, listed, nodes_of}

-- a list of nodes is that of its nodes
pub listed_nodes : (nodes : List Node) → listed (nodes_of nodes) ≡ nodes
listed_nodes [] = refl
listed_nodes (node ∷ nodes) = ap (λ ns. node ∷ ns) (listed_nodes nodes)

-- nodes are those of their list
pub nodes_listed : (nodes : Nodes) → nodes_of (listed nodes) ≡ nodes
nodes_listed NoMore = refl
nodes_listed (And node nodes) = ap (And node) (nodes_listed nodes)

-- a node of a list is not deeper than its nodes
pub one_smaller : (nodes : List Node) (i : ℕ) (d : Node) → i < length nodes → depth (get_or nodes i d) < suc (depth_of (nodes_of nodes))
one_smaller [] i d lt = absurd (omega (arith, lt))
one_smaller (node ∷ nodes) zero d lt = omega arith
one_smaller (node ∷ nodes) (suc i) d lt = let h = one_smaller nodes i d (omega (arith, lt)) in omega (arith, h)
