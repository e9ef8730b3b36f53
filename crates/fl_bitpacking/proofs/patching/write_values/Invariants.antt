use Rattle.std.proofs.Common.{◌≡◌, ℕ, ◌+◌, ◌<◌, ◌/◌, length, map, unsigned_abs, option_map, unwrap_or}
use Rattle.fl_patches.specs.PatchMaps.{rank_of}
use Rattle.fl_bitpacking.specs.Blocks.{value_at}
use Rattle.fl_bitpacking.specs.BlockSums.{plus_block_reference}
use Rattle.fl_bitpacking.proofs.FoundBelow.{found_below}
use Rattle.fl_bitpacking.proofs.patching.write_values.Given as goal

-- the patches so far
abbrev pub invariant-loop-k : goal.invariant-loop-k
invariant-loop-k g l = record {
  whole : length l.items ≡ length l.initial.items;
  put : (i : ℕ) → i < length l.items → value_at g.T.Number.value l.items i ≡ unwrap_or (option_map (plus_block_reference g.T.NativePType.PTYPE (map g.T.Number.value l.references) ((l.first + i) / 1024)) (found_below (map g.T.Number.value l.placed.values.now) l.k (rank_of (l.placed.offset + i) (map unsigned_abs (map g.I.Number.value l.placed.indices.now))))) (value_at g.T.Number.value l.initial.items i);
}
