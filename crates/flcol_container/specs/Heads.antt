-- What the code holds of a node's head.
use Rattle.std.specs.Prelude.{string_bytes}
use Rattle.fl_serialized.specs.Nodes.{Head}
use Rattle.flcol_container.specs.declared.reading.NodeHead.{NodeHead}

-- what a node says of itself, without where it lies in memory
abbrev pub seen_head : NodeHead → Head
seen_head h = record { id = string_bytes h.id; dtype = h.dtype; len = h.len; metadata = h.metadata.items; buffers = h.buffers.items }
