use Rattle.std.proofs.Common.{◌≡◌, ℕ, ◌<◌, ◌+ℤ◌, length}
use Rattle.fl_types.specs.Integers.{wrap}
use Rattle.fl_bitpacking.specs.Blocks.{block_item, value_at}
use Rattle.fl_bitpacking.proofs.bit_packed.unfor_patterns.Given as goal

-- the integers so far
abbrev pub invariant-loop-i : goal.invariant-loop-i
invariant-loop-i g l = record {
  done : (j : ℕ) → j < l.i → value_at g.T.Number.value l.items j ≡ wrap g.T.NativePType.PTYPE (block_item g.T.NativePType.PTYPE l.width l.block j +ℤ g.T.Number.value l.fn.reference);
  whole : length l.items ≡ 1024;
}
