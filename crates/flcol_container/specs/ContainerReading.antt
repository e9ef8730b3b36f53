-- Reading a container from the front.
use Rattle.std.specs.Prelude.{◌≡◌, ◌↔◌, ◌-◌, ◌==◌, ℕ, zero, suc, List, [], ◌∷◌, length, take, drop, codes, bytes_eq, Option, Some, None, Result, Ok, Err, nat_lt, if◌then◌else◌}
use Rattle.std.specs.List.{list_all}
use Rattle.std.specs.Int.{Width, byte_len, from_le_bytes, w32, w64}
use Rattle.fl_types.specs.declared.dtype.DType.{DType}
use Rattle.fl_types.specs.declared.dtype.DType.TheVariants as dtypes
use Rattle.fl_types.specs.declared.dtype.Nullability.{Nullability}
use Rattle.fl_types.specs.declared.dtype.Nullability.TheVariants.{NonNullable, Nullable}
use Rattle.fl_types.specs.declared.dtype.PType.{PType}
use Rattle.fl_types.specs.declared.error.FastLanesError.{FastLanesError}
use Rattle.fl_metadata.specs.Messages.{type_numbered}
use Rattle.fl_metadata.specs.WrittenText.{AreBytes}
use Rattle.fl_serialized.specs.Nodes.{And, Head, NoMore, Node, Nodes, Of}
use Rattle.flcol_container.specs.Container.{IsContainer, max_depth}

infixl 10 ◌>>=◌
-- one step and then another, where the first finds something
abbrev pub ◌>>=◌ : {A B : Type 0} → Option A → (A → Option B) → Option B
None >>= f = None
(Some x) >>= f = f x

-- ---- what stands at the front, and what is left behind it
-- a byte
abbrev pub byte_at : List ℕ → Option (ℕ × List ℕ)
byte_at [] = None
byte_at (b ∷ bs) = Some (b, bs)

-- so many bytes
abbrev pub front_at : ℕ → List ℕ → Option (List ℕ × List ℕ)
front_at n bytes = if nat_lt (length bytes) n then None else Some (take n bytes, drop n bytes)

-- a number, in a word of this width
abbrev pub number_at : Width → List ℕ → Option (ℕ × List ℕ)
number_at w bytes = front_at (byte_len w) bytes >>= λ x. Some (from_le_bytes w x.0, x.1)

-- bytes behind their length, which stands in a word of this width
abbrev pub prefixed_at : Width → List ℕ → Option (List ℕ × List ℕ)
prefixed_at w bytes = number_at w bytes >>= λ n. front_at n.0 n.1

-- an integer type, where a number stands for one
abbrev pub integer_dtype : Nullability → Result PType FastLanesError → Option DType
integer_dtype nullability (Ok ptype) = Some (dtypes.Primitive ptype nullability)
integer_dtype nullability (Err refusal) = None

-- the type that a number from 0 to 8 stands for
abbrev pub dtype_numbered : Nullability → ℕ → Option DType
dtype_numbered nullability n = if n == 8 then Some (dtypes.Bool nullability) else integer_dtype nullability (type_numbered n)

-- the type that a byte stands for
abbrev pub dtype_of_byte : ℕ → Option DType
dtype_of_byte b = if nat_lt b 16 then dtype_numbered NonNullable b else dtype_numbered Nullable (b - 16)

-- a type
unfoldable pub dtype_at : List ℕ → Option (DType × List ℕ)
dtype_at bytes = do
  byte ← byte_at bytes
  dtype ← dtype_of_byte byte.0
  Some (dtype, byte.1)

-- ASCII behind a byte for its length
unfoldable pub id_at : List ℕ → Option (List ℕ × List ℕ)
id_at bytes = do
  size ← byte_at bytes
  id ← front_at size.0 size.1
  if list_all (λ b. nat_lt b 128) id.0 then Some id else None

-- so many buffers
unfoldable pub buffers_at : ℕ → List ℕ → Option (List (List ℕ) × List ℕ)
buffers_at zero bytes = Some ([], bytes)
buffers_at (suc n) bytes = do
  buffer ← prefixed_at w64 bytes
  others ← buffers_at n buffer.1
  Some (buffer.0 ∷ others.0, others.1)

-- what a node says of itself
unfoldable pub head_at : List ℕ → Option (Head × List ℕ)
head_at bytes = do
  id ← id_at bytes
  dtype ← dtype_at id.1
  len ← number_at w64 dtype.1
  metadata ← prefixed_at w32 len.1
  count ← byte_at metadata.1
  buffers ← buffers_at count.0 count.1
  Some (record { id = id.0; dtype = dtype.0; len = len.0; metadata = metadata.0; buffers = buffers.0 }, buffers.1)

-- so many nodes, of which each is all of the bytes behind a length
unfoldable pub nodes_at : (List ℕ → Option Node) → ℕ → List ℕ → Option (Nodes × List ℕ)
nodes_at child zero bytes = Some (NoMore, bytes)
nodes_at child (suc n) bytes = do
  held ← prefixed_at w64 bytes
  node ← child held.0
  others ← nodes_at child n held.1
  Some (And node others.0, others.1)

-- ---- all of the bytes
-- the node that all of the bytes are, at most so deep
unfoldable pub node_in : ℕ → List ℕ → Option Node
node_in zero bytes = None
node_in (suc depth) bytes = do
  head ← head_at bytes
  count ← byte_at head.1
  children ← nodes_at (node_in depth) count.0 count.1
  if length children.1 == 0 then Some (Of head.0 children.0) else None

-- the node of a container, if the bytes are one
abbrev pub container_of : List ℕ → Option Node
container_of bytes = do
  beginning ← front_at 4 bytes
  if bytes_eq beginning.0 (codes "FLC1") then node_in max_depth beginning.1 else None

-- a law: what is read of bytes is the node whose container they are
abbrev pub ContainerIsRead : Type 0
ContainerIsRead = (bytes : List ℕ) (node : Node) → AreBytes bytes → (container_of bytes ≡ Some node) ↔ IsContainer bytes node
