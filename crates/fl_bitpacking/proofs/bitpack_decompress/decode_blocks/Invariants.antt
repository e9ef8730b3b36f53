use Rattle.std.proofs.Common.{◌≡◌, ℕ, ◌+◌, ◌-◌, ◌*◌, ◌<◌, length, min}
use Rattle.fl_bitpacking.specs.Blocks.{blocks_of, item_of_blocks, value_at}
use Rattle.fl_bitpacking.specs.Readings.{more_blocks}
use Rattle.fl_bitpacking.proofs.bitpack_decompress.decode_blocks.Given as goal

-- the items of the blocks so far
abbrev pub invariant-loop-j : goal.invariant-loop-j
invariant-loop-j g l = record {
  start : l.start ≡ (blocks_of l.blocks.widths).start l.j;
  long : length l.items.items ≡ min (1024 * l.j) (l.blocks.offset + l.blocks.len) - l.blocks.offset;
  done : (i : ℕ) → i < length l.items.items → value_at g.T.Number.value l.items.items i ≡ item_of_blocks g.T.NativePType.PTYPE (blocks_of l.blocks.widths) l.initial.reader.bytes (l.blocks.offset + i);
  counted : l.reader ≡ more_blocks l.j l.initial.reader;
}
