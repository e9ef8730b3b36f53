use Rattle.std.proofs.Common.{◌≡◌, ℕ, ◌+◌, ◌-◌, ◌*◌, ◌/◌, ◌<◌, length, min}
use Rattle.fl_bitpacking.specs.Blocks.{blocks_of, value_at}
use Rattle.fl_bitpacking.specs.BlockSums.{decoded_item}
use Rattle.fl_bitpacking.specs.Readings.{more_blocks}
use Rattle.fl_bitpacking.proofs.blocks.PackedBlocks.read_into.Given as goal

-- the items of the blocks so far
abbrev pub invariant-loop-j : goal.invariant-loop-j
invariant-loop-j g l = record {
  done : (i : ℕ) → i < min (1024 * l.j) (l.self.offset + l.start + length l.initial.items) - (l.self.offset + l.start) → value_at g.T.Number.value l.items i ≡ decoded_item (g.D.BlockDecoder.item l.decoder) g.T.NativePType.PTYPE (blocks_of l.self.widths) l.initial.reader.bytes (l.self.offset + (l.start + i));
  counted : l.reader ≡ more_blocks (l.j - (l.self.offset + l.start) / 1024) l.initial.reader;
}
