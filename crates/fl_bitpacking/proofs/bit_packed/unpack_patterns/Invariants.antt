use Rattle.std.proofs.Common.{◌≡◌, ℕ, ◌<◌, length}
use Rattle.fl_bitpacking.specs.Blocks.{block_item, value_at}
use Rattle.fl_bitpacking.proofs.bit_packed.unpack_patterns.Given as goal

-- the integers so far
abbrev pub invariant-loop-i : goal.invariant-loop-i
invariant-loop-i g l = record {
  done : (j : ℕ) → j < l.i → value_at g.T.Number.value l.items j ≡ block_item g.T.NativePType.PTYPE l.width l.block j;
  whole : length l.items ≡ 1024;
}
