-- The bytes of a container: a beginning, and a node with the nodes in it.
use Rattle.std.specs.Prelude.{◌≡◌, ◌+◌, ◌<◌, ◌≤◌, ◌^◌, ℕ, suc, List, [], ◌∷◌, ◌++◌, length, flat_map, codes}
use Rattle.std.specs.List.{All}
use Rattle.std.specs.Str.{IsAscii}
use Rattle.std.specs.Int.{Width, to_le_bytes, w32, w64}
use Rattle.fl_types.specs.declared.dtype.DType.{DType}
use Rattle.fl_types.specs.declared.dtype.DType.TheVariants as dtypes
use Rattle.fl_types.specs.declared.dtype.Nullability.{Nullability}
use Rattle.fl_types.specs.declared.dtype.Nullability.TheVariants.{NonNullable, Nullable}
use Rattle.fl_types.specs.Integers.{code_of}
use Rattle.fl_serialized.specs.Nodes.{And, Head, NoMore, Node, Nodes, Of, depth}

-- ---- the bytes of a node
-- what is added to a type's byte where nulls may stand
abbrev pub nullable_bit : Nullability → ℕ
nullable_bit NonNullable = 0
nullable_bit Nullable = 16

-- the byte of a type: the number of an integer type, or 8, and 16 more where nulls may stand
abbrev pub dtype_byte : DType → ℕ
dtype_byte (dtypes.Primitive ptype nullability) = code_of ptype + nullable_bit nullability
dtype_byte (dtypes.Bool nullability) = 8 + nullable_bit nullability

-- bytes behind their length, which is written in a word of this width
abbrev pub length_prefixed : Width → List ℕ → List ℕ
length_prefixed w bytes = to_le_bytes w (length bytes) ++ bytes

-- what a node says of itself: its id behind a byte for its length, its type, its length, its metadata, and its buffers behind their number
abbrev pub head_bytes : Head → List ℕ
head_bytes head = length head.id ∷ head.id ++ dtype_byte head.dtype ∷ to_le_bytes w64 head.len ++ length_prefixed w32 head.metadata ++ length head.buffers ∷ flat_map (length_prefixed w64) head.buffers

-- how many nodes there are
abbrev pub node_count : Nodes → ℕ
node_count NoMore = 0
node_count (And node nodes) = suc (node_count nodes)

unfoldable mutual
  -- a node: what it says of itself, and its children behind their number
  pub node_bytes : Node → List ℕ
  node_bytes (Of head children) = head_bytes head ++ node_count children ∷ nodes_bytes children

  -- nodes, each behind the length of its bytes
  pub nodes_bytes : Nodes → List ℕ
  nodes_bytes NoMore = []
  nodes_bytes (And node nodes) = length_prefixed w64 (node_bytes node) ++ nodes_bytes nodes

-- a node behind the beginning
abbrev pub container_bytes : Node → List ℕ
container_bytes node = codes "FLC1" ++ node_bytes node

-- ---- the nodes that have a container
-- each part of what a node says of itself fits its field, and its id is ASCII
pub record HeadFits (head : Head) : Type 0 where
  pub id : length head.id < 2 ^ 8
  pub ascii : IsAscii head.id
  pub len : head.len < 2 ^ 64
  pub metadata : length head.metadata < 2 ^ 32
  pub buffer_count : length head.buffers < 2 ^ 8
  pub buffers : All (λ buffer. length buffer < 2 ^ 64) head.buffers

abbrev mutual
  -- each part of a node and of the nodes in it fits its field
  pub NodeFits : Node → Type 0
  NodeFits (Of head children) = HeadFits head × (node_count children < 2 ^ 8) × NodesFit children

  -- each part of nodes does
  pub NodesFit : Nodes → Type 0
  NodesFit NoMore = Unit {0}
  NodesFit (And node nodes) = NodeFits node × (length (node_bytes node) < 2 ^ 64) × NodesFit nodes

-- the greatest depth of a node in a container
abbrev pub max_depth : ℕ
max_depth = 16

-- these bytes are the container of this node
pub record IsContainer (bytes : List ℕ) (node : Node) : Type 0 where
  pub text : bytes ≡ container_bytes node
  pub shallow : depth node ≤ max_depth
  pub fits : NodeFits node

-- these bytes are no container
abbrev pub IsNoContainer : List ℕ → Type 0
IsNoContainer bytes = (node : Node) → IsContainer bytes node → ⊥

-- this node has no container
abbrev pub HasNoContainer : Node → Type 0
HasNoContainer node = (bytes : List ℕ) → IsContainer bytes node → ⊥

-- a law: bytes are the container of one node at most
abbrev pub ContainerHasOneNode : Type 0
ContainerHasOneNode = (bytes : List ℕ) (a b : Node) → IsContainer bytes a → IsContainer bytes b → a ≡ b
