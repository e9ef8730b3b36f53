-- The ids in a tree of nodes.
use Rattle.std.specs.Prelude.{ℕ, List, [], ◌∷◌, ◌++◌}
use Rattle.fl_serialized.specs.Nodes.{And, Node, Nodes, NoMore, Of}

abbrev mutual
  -- the ids of a node and of all nodes in it
  pub ids_in : Node → List (List ℕ)
  ids_in (Of head children) = head.id ∷ ids_in_all children

  -- the ids of nodes and of all nodes in them
  pub ids_in_all : Nodes → List (List ℕ)
  ids_in_all NoMore = []
  ids_in_all (And node nodes) = ids_in node ++ ids_in_all nodes
