use Rattle.std.proofs.Common.{◌≡◌, ℕ, ◌+◌, ◌-◌, ◌*◌, ◌<◌, min}
use Rattle.fl_bitpacking.specs.Blocks.{blocks_of, value_at}
use Rattle.fl_bitpacking.specs.BlockSums.{decoded_item}
use Rattle.fl_bitpacking.specs.Readings.{more_blocks}
use Rattle.fl_bitpacking.proofs.blocks.PackedBlocks.decode_into.Given as goal

-- the items of the blocks so far
abbrev pub invariant-loop-j : goal.invariant-loop-j
invariant-loop-j g l = record {
  start : l.start ≡ (blocks_of l.self.widths).start l.j;
  done : (i : ℕ) → i < min (1024 * l.j) (l.self.offset + l.self.len) - l.self.offset → value_at g.T.Number.value l.items i ≡ decoded_item (g.D.BlockDecoder.item l.decoder) g.T.NativePType.PTYPE (blocks_of l.self.widths) l.initial.reader.bytes (l.self.offset + i);
  counted : l.reader ≡ more_blocks l.j l.initial.reader;
}
