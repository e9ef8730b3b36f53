-- Kinds by themselves: each is written and read under its own ids alone.
use Rattle.std.specs.Prelude.{Bool, true, false, Option, Some, None, Result, Ok, Err, if◌then◌else◌}
use Rattle.fl_types.specs.declared.error.FastLanesError.{FastLanesError}
use Rattle.fl_types.specs.declared.error.FastLanesError.TheVariants.{UnknownId}
use Rattle.fl_array.specs.Trees.{Tree}
use Rattle.fl_serialized.specs.Nodes.{Node, head_of}
use Rattle.fl_serde.specs.declared.kinds.NodeKind.{NodeKind}
use Rattle.fl_serde.specs.declared.kinds.NodeKind.TheVariants as kinds
use Rattle.fl_serde.specs.Kinds.{kind_of_id}
use Rattle.fl_serde.specs.Reading.{reading}
use Rattle.fl_serde.specs.Writing.{node_kind, written}

-- bit-packed arrays
abbrev pub is_bitpacked : NodeKind → Bool
is_bitpacked kinds.BitPacked = true
is_bitpacked kinds.BitPackedBlocked = true
is_bitpacked other = false

-- FoR arrays
abbrev pub is_for : NodeKind → Bool
is_for kinds.FoR = true
is_for kinds.FoRChunked = true
is_for other = false

-- delta arrays
abbrev pub is_delta : NodeKind → Bool
is_delta kinds.Delta = true
is_delta other = false

-- run-length encoded arrays
abbrev pub is_rle : NodeKind → Bool
is_rle kinds.RLE = true
is_rle other = false

-- the node of an array of some kinds
abbrev pub written_under : (NodeKind → Bool) → Tree → Result Node FastLanesError
written_under takes t = if takes (node_kind t) then Ok (written t) else Err UnknownId

-- the array that a node of a kind is read as, where it is one of some kinds
abbrev pub reading_kind : (NodeKind → Bool) → Option NodeKind → Node → Result Tree FastLanesError
reading_kind takes None node = Err UnknownId
reading_kind takes (Some kind) node = if takes kind then reading node else Err UnknownId

-- the array that a node is read as whose id names one of some kinds
abbrev pub reading_under : (NodeKind → Bool) → Node → Result Tree FastLanesError
reading_under takes node = reading_kind takes (kind_of_id (head_of node).id) node
