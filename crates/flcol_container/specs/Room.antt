-- Which nodes have room in a container, as tests.
use Rattle.std.specs.Prelude.{◌-◌, ◌<◌, ◌^◌, ℕ, Bool, true, ◌&&◌, List, length, nat_lt}
use Rattle.std.specs.List.{All, list_all}
use Rattle.fl_serialized.specs.Nodes.{And, Head, NoMore, Node, Nodes, Of}
use Rattle.flcol_container.specs.Container.{node_count}

-- the parts of what a node says of itself have room, where the machine's words hold its length and those of its buffers
abbrev pub head_has_room : Head → Bool
head_has_room head = nat_lt (length head.id) (2 ^ 8) && list_all (λ b. nat_lt b 128) head.id && nat_lt (length head.metadata) (2 ^ 32) && nat_lt (length head.buffers) (2 ^ 8)

-- a node has room without the nodes in it, where some are still allowed in one another
abbrev pub level_has_room : ℕ → Head → Nodes → Bool
level_has_room depth head children = nat_lt 0 depth && head_has_room head && nat_lt (node_count children) (2 ^ 8)

abbrev mutual
  -- a node has room with the nodes in it, at most so many in one another
  pub has_room : ℕ → Node → Bool
  has_room depth (Of head children) = level_has_room depth head children && have_room (depth - 1) children

  -- nodes have room, each at most so many in one another
  pub have_room : ℕ → Nodes → Bool
  have_room depth NoMore = true
  have_room depth (And node nodes) = has_room depth node && have_room depth nodes

-- the machine's words hold these lengths
abbrev pub AreShort : List (List ℕ) → Type 0
AreShort buffers = All (λ buffer. length buffer < 2 ^ 64) buffers

abbrev mutual
  -- the machine's words hold the lengths of a node, of its buffers and of the nodes in it
  pub IsInMemory : Node → Type 0
  IsInMemory (Of head children) = (head.len < 2 ^ 64) × AreShort head.buffers × AreInMemory children

  -- they hold those of nodes
  pub AreInMemory : Nodes → Type 0
  AreInMemory NoMore = Unit {0}
  AreInMemory (And node nodes) = IsInMemory node × AreInMemory nodes
