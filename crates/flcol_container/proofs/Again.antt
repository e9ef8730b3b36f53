-- A node's container is read as the node, so bytes are the container of one node at most.
use Rattle.std.proofs.Common.{◌≡◌, ℕ, zero, suc, true, false, ltb, ◌^◌, ◌<◌, ◌≤◌, List, [], ◌∷◌, ◌++◌, length, Option, Some, refl, sym, ap, ◌∙◌, append_assoc, arith}
use Rattle.std.specs.Prelude.{flat_map, codes}
use Rattle.std.specs.List.{All, list_all}
use Rattle.std.specs.Int.{w32, w64, to_le_bytes}
use Rattle.std.proofs.lemmas.Bool.{le-ltb}
use Rattle.std.proofs.lemmas.List.{take_at, drop_at, length-append, append-nil}
use Rattle.std.proofs.lemmas.List.Elements.{All-head, All-tail}
use Rattle.std.proofs.lemmas.Nat.{from_le_bytes-to_le_bytes_4, from_le_bytes-to_le_bytes_8}
use Rattle.fl_types.specs.declared.dtype.DType.{DType}
use Rattle.fl_types.specs.declared.dtype.DType.TheVariants as dtypes
use Rattle.fl_types.specs.declared.dtype.Nullability.TheVariants.{NonNullable, Nullable}
use Rattle.fl_types.specs.declared.dtype.PType.TheVariants.{U8, U16, U32, U64, I8, I16, I32, I64}
use Rattle.fl_serialized.specs.Nodes.{And, Head, NoMore, Node, Nodes, Of, depth, depth_of}
use Rattle.flcol_container.specs.Container.{ContainerHasOneNode, HeadFits, IsContainer, NodeFits, NodesFit, dtype_byte, head_bytes, length_prefixed, node_count, node_bytes, nodes_bytes}
use Rattle.flcol_container.specs.ContainerReading.{buffers_at, container_of, dtype_at, dtype_of_byte, front_at, head_at, id_at, node_in, nodes_at, number_at, prefixed_at}
use Rattle.flcol_container.proofs.Steps.{all_ascii}

-- ---- numbers and texts
front_again : (front rest : List ℕ) → front_at (length front) (front ++ rest) ≡ Some (front, rest)
front_again front rest = rw (le-ltb (length (front ++ rest)) (length front) (omega (arith, length-append front rest)), take_at front rest (length front) refl, drop_at front rest (length front) refl) refl

number_again_64 : (n : ℕ) (rest : List ℕ) → n < 2 ^ 64 → number_at w64 (to_le_bytes w64 n ++ rest) ≡ Some (n, rest)
number_again_64 n rest lt =
    let long : ltb (length (to_le_bytes w64 n ++ rest)) 8 ≡ false = le-ltb _ _ (omega (arith, length-append (to_le_bytes w64 n) rest)) in
    rw (long, from_le_bytes-to_le_bytes_8 n lt) refl

number_again_32 : (n : ℕ) (rest : List ℕ) → n < 2 ^ 32 → number_at w32 (to_le_bytes w32 n ++ rest) ≡ Some (n, rest)
number_again_32 n rest lt =
    let long : ltb (length (to_le_bytes w32 n ++ rest)) 4 ≡ false = le-ltb _ _ (omega (arith, length-append (to_le_bytes w32 n) rest)) in
    rw (long, from_le_bytes-to_le_bytes_4 n lt) refl

prefixed_again_64 : (held rest : List ℕ) → length held < 2 ^ 64 → prefixed_at w64 (length_prefixed w64 held ++ rest) ≡ Some (held, rest)
prefixed_again_64 held rest lt =
    ap (prefixed_at w64) (append_assoc (to_le_bytes w64 (length held)) held rest) ∙ rw (number_again_64 (length held) (held ++ rest) lt) (front_again held rest)

prefixed_again_32 : (held rest : List ℕ) → length held < 2 ^ 32 → prefixed_at w32 (length_prefixed w32 held ++ rest) ≡ Some (held, rest)
prefixed_again_32 held rest lt =
    ap (prefixed_at w32) (append_assoc (to_le_bytes w32 (length held)) held rest) ∙ rw (number_again_32 (length held) (held ++ rest) lt) (front_again held rest)

-- ---- heads
dtype_again : (dtype : DType) → dtype_of_byte (dtype_byte dtype) ≡ Some dtype
dtype_again (dtypes.Primitive U8 NonNullable) = refl
dtype_again (dtypes.Primitive U8 Nullable) = refl
dtype_again (dtypes.Primitive U16 NonNullable) = refl
dtype_again (dtypes.Primitive U16 Nullable) = refl
dtype_again (dtypes.Primitive U32 NonNullable) = refl
dtype_again (dtypes.Primitive U32 Nullable) = refl
dtype_again (dtypes.Primitive U64 NonNullable) = refl
dtype_again (dtypes.Primitive U64 Nullable) = refl
dtype_again (dtypes.Primitive I8 NonNullable) = refl
dtype_again (dtypes.Primitive I8 Nullable) = refl
dtype_again (dtypes.Primitive I16 NonNullable) = refl
dtype_again (dtypes.Primitive I16 Nullable) = refl
dtype_again (dtypes.Primitive I32 NonNullable) = refl
dtype_again (dtypes.Primitive I32 Nullable) = refl
dtype_again (dtypes.Primitive I64 NonNullable) = refl
dtype_again (dtypes.Primitive I64 Nullable) = refl
dtype_again (dtypes.Bool NonNullable) = refl
dtype_again (dtypes.Bool Nullable) = refl

byte_again : (dtype : DType) (rest : List ℕ) → dtype_at (dtype_byte dtype ∷ rest) ≡ Some (dtype, rest)
unfolding dtype_at
byte_again dtype rest = rw (dtype_again dtype) refl

id_again : (id rest : List ℕ) → list_all (λ b. ltb b 128) id ≡ true → id_at (length id ∷ id ++ rest) ≡ Some (id, rest)
unfolding id_at
id_again id rest ascii = rw (front_again id rest, ascii) refl

buffers_again : (buffers : List (List ℕ)) (rest : List ℕ) → All (λ buffer. length buffer < 2 ^ 64) buffers → buffers_at (length buffers) (flat_map (length_prefixed w64) buffers ++ rest) ≡ Some (buffers, rest)
unfolding buffers_at
buffers_again [] rest short = refl
buffers_again (buffer ∷ buffers) rest short =
    let Short : List ℕ → Type 0 = λ b. length b < 2 ^ 64 in
    ap (buffers_at (suc (length buffers))) (append_assoc (length_prefixed w64 buffer) (flat_map (length_prefixed w64) buffers) rest)
    ∙ rw (prefixed_again_64 buffer (flat_map (length_prefixed w64) buffers ++ rest) (All-head Short buffer buffers short), buffers_again buffers rest (All-tail Short buffer buffers short)) refl

-- the parts of a head, one behind the other
head_parts : (h : Head) (rest : List ℕ) → head_bytes h ++ rest ≡ length h.id ∷ h.id ++ (dtype_byte h.dtype ∷ to_le_bytes w64 h.len ++ (length_prefixed w32 h.metadata ++ (length h.buffers ∷ flat_map (length_prefixed w64) h.buffers ++ rest)))
head_parts h rest = regroup h.id (to_le_bytes w64 h.len) (length_prefixed w32 h.metadata) (flat_map (length_prefixed w64) h.buffers) rest (length h.id) (dtype_byte h.dtype) (length h.buffers)
  where
    regroup : (id len metadata buffers rest : List ℕ) (a b c : ℕ) → (a ∷ id ++ b ∷ len ++ metadata ++ c ∷ buffers) ++ rest ≡ a ∷ id ++ (b ∷ len ++ (metadata ++ (c ∷ buffers ++ rest)))
    regroup id len metadata buffers rest a b c = simp append_assoc

head_again : (h : Head) (rest : List ℕ) → HeadFits h → head_at (head_bytes h ++ rest) ≡ Some (h, rest)
unfolding head_at
head_again h rest fits =
    let buffers : List ℕ = flat_map (length_prefixed w64) h.buffers ++ rest in
    let metadata : List ℕ = length_prefixed w32 h.metadata ++ (length h.buffers ∷ buffers) in
    let len : List ℕ = to_le_bytes w64 h.len ++ metadata in
    ap head_at (head_parts h rest)
    ∙ rw (id_again h.id (dtype_byte h.dtype ∷ len) (all_ascii h.id fits.ascii), byte_again h.dtype len, number_again_64 h.len metadata fits.len, prefixed_again_32 h.metadata (length h.buffers ∷ buffers) fits.metadata, buffers_again h.buffers rest fits.buffers) refl

-- ---- nodes
no_more : (child : List ℕ → Option Node) (rest : List ℕ) → nodes_at child 0 rest ≡ Some (NoMore, rest)
unfolding nodes_at
no_more child rest = refl

more_nodes : (child : List ℕ → Option Node) (node : Node) (nodes : Nodes) (held others rest : List ℕ) → length held < 2 ^ 64 → child held ≡ Some node → nodes_at child (node_count nodes) (others ++ rest) ≡ Some (nodes, rest)
    → nodes_at child (suc (node_count nodes)) ((length_prefixed w64 held ++ others) ++ rest) ≡ Some (And node nodes, rest)
unfolding nodes_at
more_nodes child node nodes held others rest lt first others_again =
    ap (nodes_at child (suc (node_count nodes))) (append_assoc (length_prefixed w64 held) others rest) ∙ rw (prefixed_again_64 held (others ++ rest) lt, first, others_again) refl

one_node : (d : ℕ) (h : Head) (nodes : Nodes) (text : List ℕ) → HeadFits h → nodes_at (node_in d) (node_count nodes) (text ++ []) ≡ Some (nodes, []) → node_in (suc d) (head_bytes h ++ node_count nodes ∷ text) ≡ Some (Of h nodes)
unfolding node_in
one_node d h nodes text fits others =
    let others' : nodes_at (node_in d) (node_count nodes) text ≡ Some (nodes, []) = ap (nodes_at (node_in d) (node_count nodes)) (sym (append-nil text)) ∙ others in
    rw (head_again h (node_count nodes ∷ text) fits, others') refl

mutual
  unfolding node_bytes

  pub node_again : (node : Node) (d : ℕ) → NodeFits node → depth node ≤ d → node_in d (node_bytes node) ≡ Some node
  node_again (Of h nodes) zero fits le = absurd (omega arith)
  node_again (Of h nodes) (suc d) fits le = one_node d h nodes (nodes_bytes nodes) fits.0 (nodes_again nodes d [] fits.2 (omega arith))

  pub nodes_again : (nodes : Nodes) (d : ℕ) (rest : List ℕ) → NodesFit nodes → depth_of nodes ≤ d → nodes_at (node_in d) (node_count nodes) (nodes_bytes nodes ++ rest) ≡ Some (nodes, rest)
  nodes_again NoMore d rest fits le = no_more (node_in d) rest
  nodes_again (And node nodes) d rest fits le = more_nodes (node_in d) node nodes (node_bytes node) (nodes_bytes nodes) rest fits.1 (node_again node d fits.0 (omega arith)) (nodes_again nodes d rest fits.2 (omega arith))

-- ---- containers
begun : (rest : List ℕ) → container_of (codes "FLC1" ++ rest) ≡ node_in 16 rest
begun rest = rw (front_again (codes "FLC1") rest) refl

pub container_again : (bytes : List ℕ) (node : Node) → IsContainer bytes node → container_of bytes ≡ Some node
container_again bytes node is = ap container_of is.text ∙ begun (node_bytes node) ∙ node_again node 16 is.fits is.shallow

pub one_node_at_most : ContainerHasOneNode
one_node_at_most bytes a b is_a is_b = some_is a b (container_of bytes) (container_again bytes a is_a) (container_again bytes b is_b)
  where
    some_is : (x y : Node) (o : Option Node) → o ≡ Some x → o ≡ Some y → x ≡ y
    some_is x y o p q = cc
