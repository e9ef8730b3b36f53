-- Serialized arrays: nodes, each with the nodes in it.
use Rattle.std.specs.Prelude.{ℕ, suc, max, List, [], ◌∷◌, codes}
use Rattle.fl_types.specs.declared.dtype.DType.{DType}

-- what a node says of itself: its id, its type and length, its metadata and its buffers
pub record Head : Type 0 where
  pub id : List ℕ
  pub dtype : DType
  pub len : ℕ
  pub metadata : List ℕ
  pub buffers : List (List ℕ)

mutual
  -- a node: what it says of itself, and its children
  pub data Node : Type 0 where
    Of : Head → Nodes → Node

  -- nodes one after the other
  pub data Nodes : Type 0 where
    NoMore : Nodes
    And : Node → Nodes → Nodes

-- what a node says of itself
abbrev pub head_of : Node → Head
head_of (Of head children) = head

-- a node's children
abbrev pub children_of : Node → Nodes
children_of (Of head children) = children

-- the nodes of a list
abbrev pub nodes_of : List Node → Nodes
nodes_of [] = NoMore
nodes_of (node ∷ nodes) = And node (nodes_of nodes)

-- nodes as a list
abbrev pub listed : Nodes → List Node
listed NoMore = []
listed (And node nodes) = node ∷ listed nodes

abbrev mutual
  -- how many nodes stand in one another
  pub depth : Node → ℕ
  depth (Of head children) = suc (depth_of children)

  -- the depth of the deepest of nodes
  pub depth_of : Nodes → ℕ
  depth_of NoMore = 0
  depth_of (And node nodes) = max (depth node) (depth_of nodes)

-- ---- ids: the texts that name kinds
-- a primitive array
abbrev pub primitive_id : List ℕ
primitive_id = codes "vortex.primitive"

-- a constant array
abbrev pub constant_id : List ℕ
constant_id = codes "vortex.constant"

-- a boolean array
abbrev pub bool_id : List ℕ
bool_id = codes "vortex.bool"

-- a global bit-packed array
abbrev pub bitpacked_v1_id : List ℕ
bitpacked_v1_id = codes "fastlanes.bitpacked"

-- a blocked bit-packed array
abbrev pub bitpacked_v2_id : List ℕ
bitpacked_v2_id = codes "fastlanes.bitpacked.v2"

-- a global FoR array
abbrev pub for_v1_id : List ℕ
for_v1_id = codes "fastlanes.for"

-- a chunked FoR array
abbrev pub for_v2_id : List ℕ
for_v2_id = codes "fastlanes.for.v2"

-- a delta array
abbrev pub delta_id : List ℕ
delta_id = codes "fastlanes.delta"

-- a run-length encoded array
abbrev pub rle_id : List ℕ
rle_id = codes "fastlanes.rle"
