-- The parts of a packed column, and the blocks that are read, as the code holds them.
use Rattle.std.specs.Prelude.{◌≡◌, ◌+◌, ◌^◌, ◌<◌, ℕ, List, IfSome, IsTrue, length}
use Rattle.std.specs.Option.{option_copied}
use Rattle.fl_types.specs.Validities.{covers}
use Rattle.fl_bitpacking.specs.Columns.{BitPackedParts}
use Rattle.fl_bitpacking.specs.declared.bitpack_decompress.PackedColumn.{PackedColumn}
use Rattle.fl_bitpacking.specs.declared.blocks.PackedBlocks.{PackedBlocks}
use Rattle.fl_bitpacking.specs.Blocks.{AreJoined, AreWithin, blocks_of}
use Rattle.fl_patches.specs.Widths.{NamesAll}
use Rattle.fl_patches.specs.declared.widths.Widths.{Widths}
use Rattle.fl_column.specs.Chunks.{chunk_count}

-- the parts that are held
abbrev pub parts_of : PackedColumn → BitPackedParts
parts_of c = record { packed = c.packed.now; ptype = c.ptype; validity = c.validity.now; patches = option_copied c.patches; offset = c.offset; len = c.len }

-- the parts fit each other: the offset lies in the first block, positions are below 2 ^ 64, the validity covers the items, and patches are those of as many items of the type
pub record Fit (parts : BitPackedParts) : Type 0 where
  pub offset : parts.offset < 1024
  pub few : parts.offset + parts.len < 2 ^ 64
  pub covers : IsTrue (covers parts.validity parts.len)
  pub patched : IfSome parts.patches (λ p. (p.array_len ≡ parts.len) × (p.values.ptype ≡ parts.ptype))

-- the blocks of these parts, at these widths, and all items
abbrev pub blocks_to_read : PackedColumn → Widths → PackedBlocks
blocks_to_read c widths = record { widths = widths; offset = c.offset; len = c.len }

-- how many blocks are read, cut ones too
abbrev pub blocks_in : PackedBlocks → ℕ
blocks_in b = chunk_count (b.offset + b.len)

-- the blocks can be read of these bytes: the offset lies in the first one, positions are below 2 ^ 64, each has a width of at most this many bits, and they lie in the bytes behind each other
pub record AreReadable (bits : ℕ) (bytes : List ℕ) (b : PackedBlocks) : Type 0 where
  pub offset : b.offset < 1024
  pub few : b.offset + b.len < 2 ^ 64
  pub names : NamesAll b.widths (blocks_in b)
  pub within : AreWithin bits (blocks_in b) (length bytes) (blocks_of b.widths)
  pub joined : AreJoined (blocks_in b) ((blocks_of b.widths).start (blocks_in b)) (blocks_of b.widths)
