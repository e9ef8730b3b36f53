-- The kinds of nodes, and the ids that name them.
use Rattle.std.specs.Prelude.{ℕ, List, bytes_eq, Option, Some, None, if◌then◌else◌}
use Rattle.fl_serialized.specs.Nodes as ids
use Rattle.fl_serde.specs.declared.kinds.NodeKind.{NodeKind}
use Rattle.fl_serde.specs.declared.kinds.NodeKind.TheVariants as kinds

-- the id of a kind
abbrev pub id_of_kind : NodeKind → List ℕ
id_of_kind kinds.Primitive = ids.primitive_id
id_of_kind kinds.Constant = ids.constant_id
id_of_kind kinds.Bool = ids.bool_id
id_of_kind kinds.BitPacked = ids.bitpacked_v1_id
id_of_kind kinds.BitPackedBlocked = ids.bitpacked_v2_id
id_of_kind kinds.FoR = ids.for_v1_id
id_of_kind kinds.FoRChunked = ids.for_v2_id
id_of_kind kinds.Delta = ids.delta_id
id_of_kind kinds.RLE = ids.rle_id

-- the kind that an id names, if it names one
abbrev pub kind_of_id : List ℕ → Option NodeKind
kind_of_id id =
    if bytes_eq id ids.primitive_id then Some kinds.Primitive
    else if bytes_eq id ids.constant_id then Some kinds.Constant
    else if bytes_eq id ids.bool_id then Some kinds.Bool
    else if bytes_eq id ids.bitpacked_v1_id then Some kinds.BitPacked
    else if bytes_eq id ids.bitpacked_v2_id then Some kinds.BitPackedBlocked
    else if bytes_eq id ids.for_v1_id then Some kinds.FoR
    else if bytes_eq id ids.for_v2_id then Some kinds.FoRChunked
    else if bytes_eq id ids.delta_id then Some kinds.Delta
    else if bytes_eq id ids.rle_id then Some kinds.RLE
    else None
