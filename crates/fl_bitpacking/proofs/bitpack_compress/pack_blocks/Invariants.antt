use Rattle.std.proofs.Common.{◌≡◌, ℕ, ◌+◌, ◌*◌, ◌<◌, length, map}
use Rattle.fl_types.specs.Integers.{bits_of_type, lanes_of_type}
use Rattle.fastlanes.specs.Layout.{Packed, word_at}
use Rattle.fl_bitpacking.specs.Blocks.{bytes_of_block, pattern_in, blocks_of}
use Rattle.fl_bitpacking.proofs.bitpack_compress.pack_blocks.Given as goal

-- the blocks so far
abbrev pub invariant-loop-j : goal.invariant-loop-j
invariant-loop-j g l = record {
  long : length l.bytes.items ≡ (blocks_of l.widths).start l.j;
  each : (k : ℕ) → k < l.j → Packed (bits_of_type g.T.NativePType.PTYPE) (lanes_of_type g.T.NativePType.PTYPE) ((blocks_of l.widths).width k) (λ q. pattern_in g.T.NativePType.PTYPE (map g.T.Number.value l.items) (1024 * k + q)) (word_at (bits_of_type g.T.NativePType.PTYPE) (bytes_of_block (blocks_of l.widths) l.bytes.items k));
}
