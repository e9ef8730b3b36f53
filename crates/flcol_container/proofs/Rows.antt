-- Containers, by computation.
use Rattle.std.specs.Prelude.{◌≡◌, ◌<◌, ◌^◌, ◌++◌, ℕ, zero, suc, true, false, List, [], ◌∷◌, length, take, codes, is_none, is_some, map, replicate, Some, None, refl}
use Rattle.std.specs.List.{All, list_all, range_with_len}
use Rattle.std.proofs.Math.Dec.{lit≤}
use Rattle.std.proofs.Common.{lit<}
use Rattle.std.proofs.lemmas.List.Elements.{All-cons, All-nil}
use Rattle.fl_types.specs.declared.dtype.DType.{DType}
use Rattle.fl_types.specs.declared.dtype.DType.TheVariants as dtypes
use Rattle.fl_types.specs.declared.dtype.Nullability.TheVariants.{NonNullable}
use Rattle.fl_types.specs.declared.dtype.PType.TheVariants.{U8, U16, U32}
use Rattle.fl_serialized.specs.Nodes.{And, NoMore, Node, Nodes, Of, bitpacked_v1_id, bitpacked_v2_id, depth, for_v1_id, primitive_id}
use Rattle.flcol_container.specs.Container.{IsContainer, container_bytes, node_bytes, nodes_bytes}
use Rattle.flcol_container.specs.ContainerReading.{buffers_at, container_of, dtype_at, head_at, id_at, node_in, nodes_at}
use Rattle.flcol_container.proofs.Steps.{ascii_all}

-- a node of any parts
abbrev pub node : List ℕ → DType → ℕ → List ℕ → List (List ℕ) → Nodes → Node
node id dtype len metadata buffers children = Of (record { id = id; dtype = dtype; len = len; metadata = metadata; buffers = buffers }) children

-- the packed block of 1, 2, 3 at width 2
abbrev pub three_packed : List ℕ
three_packed = 1 ∷ 0 ∷ 0 ∷ 0 ∷ 2 ∷ 0 ∷ 0 ∷ 0 ∷ 3 ∷ replicate 247 0

-- 1, 2, 3 as U32, bit-packed at width 2
abbrev pub three : Node
three = node bitpacked_v1_id (dtypes.Primitive U32 NonNullable) 3 (0x08 ∷ 0x02 ∷ []) (three_packed ∷ []) NoMore

-- its container
abbrev pub three_bytes : List ℕ
three_bytes = codes "FLC1" ++ 0x13 ∷ codes "fastlanes.bitpacked" ++ 0x02 ∷ 3 ∷ 0 ∷ 0 ∷ 0 ∷ 0 ∷ 0 ∷ 0 ∷ 0 ∷ 2 ∷ 0 ∷ 0 ∷ 0 ∷ 0x08 ∷ 0x02 ∷ 1 ∷ 0 ∷ 1 ∷ 0 ∷ 0 ∷ 0 ∷ 0 ∷ 0 ∷ 0 ∷ three_packed ++ 0 ∷ []

pub three_written : container_bytes three ≡ three_bytes
unfolding node_bytes nodes_bytes
three_written = refl

pub three_length : length three_bytes ≡ 305
three_length = refl

-- the boundaries 0 and 256 of one block
abbrev pub boundaries : Node
boundaries = node primitive_id (dtypes.Primitive U16 NonNullable) 2 [] ((0 ∷ 0 ∷ 0 ∷ 1 ∷ []) ∷ []) NoMore

-- the same column between boundaries
abbrev pub blocked : Node
blocked = node bitpacked_v2_id (dtypes.Primitive U32 NonNullable) 3 (0x10 ∷ 0x01 ∷ []) (three_packed ∷ []) (And boundaries NoMore)

-- its container
abbrev pub blocked_bytes : List ℕ
blocked_bytes = codes "FLC1" ++ 0x16 ∷ codes "fastlanes.bitpacked.v2" ++ 0x02 ∷ 3 ∷ 0 ∷ 0 ∷ 0 ∷ 0 ∷ 0 ∷ 0 ∷ 0 ∷ 2 ∷ 0 ∷ 0 ∷ 0 ∷ 0x10 ∷ 0x01 ∷ 1 ∷ 0 ∷ 1 ∷ 0 ∷ 0 ∷ 0 ∷ 0 ∷ 0 ∷ 0 ∷ three_packed
    ++ 1 ∷ 44 ∷ 0 ∷ 0 ∷ 0 ∷ 0 ∷ 0 ∷ 0 ∷ 0 ∷ 0x10 ∷ codes "vortex.primitive" ++ 0x01 ∷ 2 ∷ 0 ∷ 0 ∷ 0 ∷ 0 ∷ 0 ∷ 0 ∷ 0 ∷ 0 ∷ 0 ∷ 0 ∷ 0 ∷ 1 ∷ 4 ∷ 0 ∷ 0 ∷ 0 ∷ 0 ∷ 0 ∷ 0 ∷ 0 ∷ 0 ∷ 0 ∷ 0 ∷ 1 ∷ 0 ∷ []

pub blocked_written : container_bytes blocked ≡ blocked_bytes
unfolding node_bytes nodes_bytes
blocked_written = refl

pub blocked_length : length blocked_bytes ≡ 360
blocked_length = refl

-- ---- reading
pub three_read : container_of three_bytes ≡ Some three
unfolding node_in nodes_at head_at id_at dtype_at buffers_at
three_read = refl

pub blocked_read : container_of blocked_bytes ≡ Some blocked
unfolding node_in nodes_at head_at id_at dtype_at buffers_at
blocked_read = refl

-- no proper beginning is a container
pub beginnings_refused : list_all (λ n. is_none (container_of (take n three_bytes))) (range_with_len 0 305) ≡ true
unfolding node_in nodes_at head_at id_at dtype_at buffers_at
beginnings_refused = refl

pub one_more_refused : container_of (three_bytes ++ 0 ∷ []) ≡ None
unfolding node_in nodes_at head_at id_at dtype_at buffers_at
one_more_refused = refl

-- a buffer of 2 ^ 64 - 1 bytes
pub long_buffer_refused : container_of (codes "FLC1" ++ 0x13 ∷ codes "fastlanes.bitpacked" ++ 0x02 ∷ 3 ∷ 0 ∷ 0 ∷ 0 ∷ 0 ∷ 0 ∷ 0 ∷ 0 ∷ 2 ∷ 0 ∷ 0 ∷ 0 ∷ 0x08 ∷ 0x02 ∷ 1 ∷ 255 ∷ 255 ∷ 255 ∷ 255 ∷ 255 ∷ 255 ∷ 255 ∷ 255 ∷ three_packed ++ 0 ∷ []) ≡ None
unfolding node_in nodes_at head_at id_at dtype_at buffers_at
long_buffer_refused = refl

-- ---- small nodes
-- a node without bytes
abbrev empty_node : List ℕ → Node
empty_node id = node id (dtypes.Primitive U8 NonNullable) 0 [] [] NoMore

-- its container, with this byte for its type
abbrev empty_bytes : List ℕ → ℕ → List ℕ
empty_bytes id byte = codes "FLC1" ++ length id ∷ id ++ byte ∷ replicate 14 0

pub no_id : container_of (empty_bytes [] 0) ≡ Some (empty_node [])
unfolding node_in nodes_at head_at id_at dtype_at buffers_at
no_id = refl

pub id_not_ascii : container_of (empty_bytes (128 ∷ []) 0) ≡ None
unfolding node_in nodes_at head_at id_at dtype_at buffers_at
id_not_ascii = refl

-- the types 0 to 8, and 16 to 24
pub dtype_bytes : map (λ b. is_some (container_of (empty_bytes [] b))) (range_with_len 0 32) ≡ replicate 9 true ++ replicate 7 false ++ replicate 9 true ++ replicate 7 false
unfolding node_in nodes_at head_at id_at dtype_at buffers_at
dtype_bytes = refl

pub other_beginning : container_of (codes "FLC2" ++ 0 ∷ 0 ∷ replicate 14 0) ≡ None
other_beginning = refl

-- ---- depth
-- so many frames round an empty array
abbrev pub framed : ℕ → Node
framed zero = node primitive_id (dtypes.Primitive U8 NonNullable) 0 [] ([] ∷ []) NoMore
framed (suc n) = node for_v1_id (dtypes.Primitive U8 NonNullable) 0 (0x20 ∷ 0x00 ∷ []) [] (And (framed n) NoMore)

pub fifteen_frames : container_of (container_bytes (framed 15)) ≡ Some (framed 15)
unfolding node_in nodes_at head_at id_at dtype_at buffers_at node_bytes nodes_bytes
fifteen_frames = refl

pub sixteen_frames : container_of (container_bytes (framed 16)) ≡ None
unfolding node_in nodes_at head_at id_at dtype_at buffers_at node_bytes nodes_bytes
sixteen_frames = refl

pub depths : map (λ n. depth (framed n)) (0 ∷ 15 ∷ 16 ∷ []) ≡ 1 ∷ 16 ∷ 17 ∷ []
depths = refl

-- ---- the relation
-- one buffer is short
one_buffer : (buffer : List ℕ) → length buffer < 2 ^ 64 → All (λ bytes. length bytes < 2 ^ 64) (buffer ∷ [])
one_buffer buffer short = All-cons (λ bytes. length bytes < 2 ^ 64) buffer [] short (All-nil (λ bytes. length bytes < 2 ^ 64))

pub three_is_container : IsContainer three_bytes three
unfolding node_bytes nodes_bytes
three_is_container = record {
  text = refl;
  shallow = lit≤ tt;
  fits = (record { id = lit< tt; ascii = ascii_all bitpacked_v1_id refl; len = lit< tt; metadata = lit< tt; buffer_count = lit< tt; buffers = one_buffer three_packed (lit< tt) }, lit< tt, tt);
}

pub blocked_is_container : IsContainer blocked_bytes blocked
unfolding node_bytes nodes_bytes
blocked_is_container = record {
  text = refl;
  shallow = lit≤ tt;
  fits = (
    record { id = lit< tt; ascii = ascii_all bitpacked_v2_id refl; len = lit< tt; metadata = lit< tt; buffer_count = lit< tt; buffers = one_buffer three_packed (lit< tt) },
    lit< tt,
    (
      (record { id = lit< tt; ascii = ascii_all primitive_id refl; len = lit< tt; metadata = lit< tt; buffer_count = lit< tt; buffers = one_buffer (0 ∷ 0 ∷ 0 ∷ 1 ∷ []) (lit< tt) }, lit< tt, tt),
      lit< tt,
      tt,
    ),
  );
}
