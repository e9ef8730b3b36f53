use Rattle.std.proofs.Common.{◌≡◌, ℕ, ◌+◌, ◌*◌, ◌<◌, false, length, min, true}
use Rattle.std.specs.Prelude.{slice_index_or}
use Rattle.fl_bitpacking.specs.Blocks.{blocks_of, item_of_blocks, value_at}
use Rattle.fl_bitpacking.specs.Readings.{AreFewReads}
use Rattle.fl_bitpacking.proofs.compute.filter.Filtering.read_items.Given as goal

-- the items of the words so far are read where they are kept
abbrev pub invariant-loop-k : goal.invariant-loop-k
invariant-loop-k g l = record {
  done : (i : ℕ) → i < min (64 * l.k) (length l.initial.items) → slice_index_or l.self.bits.now (l.from + i) false ≡ true → value_at g.T.Number.value l.items i ≡ item_of_blocks g.T.NativePType.PTYPE (blocks_of l.self.blocks.widths) l.initial.reader.bytes (l.self.blocks.offset + (l.from + i));
  read : AreFewReads 0 l.initial.reader l.reader;
}
